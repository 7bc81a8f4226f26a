-- Numbers, and the words of the private frame.
use Rattle.std.proofs.Common.{◌≡◌, ◌≢◌, ℕ, ◌+◌, ◌*◌, ◌%◌, ◌^◌, ◌<◌, ◌≤◌, Bool, true, false, List, [], ◌∷◌, ◌++◌, refl, ◌∙◌, arith}
use Rattle.std.specs.Prelude.{nat_lt, nat_eq, if◌then◌else◌, pos}
use Rattle.std.proofs.lemmas.Bool.Decides.{nat_tests}
use Rattle.dae_base.specs.Words.{plus, word}
use Rattle.dae_base.proofs.Laws.{plus_small}
use Rattle.dae_encode.specs.declared.Inst.{Inst}
use Rattle.dae_encode.specs.declared.Inst.TheVariants.{Lui, Addi, Add, Lw, Sw}
use Rattle.dae_encode.specs.Processor.{Processor}
use Rattle.dae_meaning.specs.Variables.{Env}
use Rattle.dae_ir.specs.Deeds.{Deed}
use Rattle.dae_select_walks.specs.Walks.{WalkSetting}
use Rattle.dae_select_walks.specs.Homes.{Contents}
use Rattle.dae_select_walks.proofs.LawsOfWalks.{put, store}
use Rattle.dae_select_blocks.specs.Blocks.{upper, lower, is_immediate, number_code, load_code, store_code}
use Rattle.dae_select_blocks.proofs.Halves.{halves, halves_to, word_upper, word_whole, immediate_word}
use Rattle.dae_select_blocks.proofs.Plain.{computes, loads_word, stores_word, put_same, put_other, put_twice, put_itself}
use Rattle.dae_select_blocks.proofs.Runs.{Runs, runs_quiet}

pub upper_small : (n : ℕ) → word (upper n) < 2 ^ 32
upper_small n = rw (word_upper n) (omega arith)

module _ (s : WalkSetting) (private : ℕ) (to : ℕ → Env → Processor → Type 0) where
  -- a number goes into a register
  pub runs_number : {c : Contents} {d : Deed} (r n : ℕ) (is : List Inst) → c.register 0 ≡ 0 → 0 < r → r < 28 → n < 2 ^ 32 → Runs s private to is (put r n c) d → Runs s private to (number_code r n ++ is) c d
  runs_number {c} {d} r n is zero low high fits run = by (is_immediate n) refl (nat_eq (n % 2 ^ 12) 0) refl
    where
      by : (b : Bool) → is_immediate n ≡ b → (whole : Bool) → nat_eq (n % 2 ^ 12) 0 ≡ whole →
          Runs s private to ((if b then Addi r 0 (lower n) ∷ [] else (if whole then Lui r (upper n) ∷ [] else Lui r (upper n) ∷ (Addi r r (lower n) ∷ []))) ++ is) c d
      by true e whole f =
          let same : plus (c.register 0) (word (lower n)) ≡ n = rw (zero, immediate_word n fits e) (omega arith) in
          runs_quiet s private to (computes s private to (Addi r 0 (lower n)) r 0 0 (λ x y. plus x (word (lower n))) refl high (omega arith) (omega arith) (plus_small (c.register 0) (word (lower n)))) (rw same run)
      by false e true f =
          let same : word (upper n) ≡ n = word_whole n fits (grind (arith, nat_tests)) in
          runs_quiet s private to (computes s private to (Lui r (upper n)) r 0 0 (λ x y. word (upper n)) refl high (omega arith) (omega arith) (upper_small n)) (rw same run)
      by false e false f =
          let first = put_same r (word (upper n)) c low high in
          let same : plus ((put r (word (upper n)) c).register r) (word (lower n)) ≡ n = rw first (halves n fits) in
          let both = put_twice r (word (upper n)) n c in
          runs_quiet s private to (computes s private to (Lui r (upper n)) r 0 0 (λ x y. word (upper n)) refl high (omega arith) (omega arith) (upper_small n))
          (runs_quiet s private to (computes s private to (Addi r r (lower n)) r r 0 (λ x y. plus x (word (lower n))) refl high high (omega arith) (plus_small ((put r (word (upper n)) c).register r) (word (lower n)))) (rw (same, both) run))

  -- the word i of a frame that begins at a word of private memory
  pub runs_load : {c : Contents} {d : Deed} (base r i : ℕ) (is : List Inst) → c.register 2 ≡ 4 * base → r ≢ 2 → 0 < r → r < 28 → base + i < private → private ≤ 2 ^ 28 → Runs s private to is (put r (c.word (base + i)) c) d → Runs s private to (load_code r i ++ is) c d
  runs_load {c} {d} base r i is pointer apart low high inside fits run = by (nat_lt i 512) refl
    where
      by : (b : Bool) → nat_lt i 512 ≡ b → Runs s private to ((if b then Lw r 2 (pos (4 * i)) ∷ [] else Lui r (upper (4 * i)) ∷ (Add r r 2 ∷ (Lw r r (lower (4 * i)) ∷ []))) ++ is) c d
      by true e =
          let short : i < 512 = grind (arith, nat_tests) in
          let found : plus (c.register 2) (word (pos (4 * i))) ≡ 4 * (base + i) = rw pointer (omega arith) in
          runs_quiet s private to (loads_word s private to r 2 (pos (4 * i)) (base + i) high (omega arith) found inside) run
      by false e =
          let u : ℕ = word (upper (4 * i)) in
          let one : Contents = put r u c in
          let first = put_same r u c low high in
          let still : one.register 2 ≡ 4 * base = put_other r u 2 c (omega arith) ∙ pointer in
          let v : ℕ = plus (one.register r) (one.register 2) in
          let two : Contents = put r v one in
          let second = put_same r v one low high in
          let found : plus (two.register r) (word (lower (4 * i))) ≡ 4 * (base + i) = rw (second, first, still, halves_to (4 * i) (4 * base) (omega arith)) (omega arith) in
          let once : put r (c.word (base + i)) (put r v (put r u c)) ≡ put r (c.word (base + i)) c = put_twice r v (c.word (base + i)) (put r u c) ∙ put_twice r u (c.word (base + i)) c in
          runs_quiet s private to (computes s private to (Lui r (upper (4 * i))) r 0 0 (λ x y. word (upper (4 * i))) refl high (omega arith) (omega arith) (upper_small (4 * i)))
          (runs_quiet s private to (computes s private to (Add r r 2) r r 2 plus refl high high (omega arith) (plus_small (one.register r) (one.register 2)))
          (runs_quiet s private to (loads_word s private to r r (lower (4 * i)) (base + i) high high found inside) (rw once run)))

  pub runs_store : {c : Contents} {d : Deed} (base r i : ℕ) (is : List Inst) → c.register 2 ≡ 4 * base → r ≢ 7 → r < 28 → base + i < private → private ≤ 2 ^ 28 → ((u : ℕ) → u < 2 ^ 32 → Runs s private to is (store (base + i) (c.register r) (put 7 u c)) d) → c.register 7 < 2 ^ 32 → Runs s private to (store_code r i ++ is) c d
  runs_store {c} {d} base r i is pointer apart high inside fits run old = by (nat_lt i 512) refl
    where
      by : (b : Bool) → nat_lt i 512 ≡ b → Runs s private to ((if b then Sw 2 r (pos (4 * i)) ∷ [] else Lui 7 (upper (4 * i)) ∷ (Add 7 7 2 ∷ (Sw 7 r (lower (4 * i)) ∷ []))) ++ is) c d
      by true e =
          let short : i < 512 = grind (arith, nat_tests) in
          let found : plus (c.register 2) (word (pos (4 * i))) ≡ 4 * (base + i) = rw pointer (omega arith) in
          let same : put 7 (c.register 7) c ≡ c = put_itself 7 c in
          runs_quiet s private to (stores_word s private to 2 r (pos (4 * i)) (base + i) (omega arith) high found inside) (rw same at (run (c.register 7) old))
      by false e =
          let u : ℕ = word (upper (4 * i)) in
          let one : Contents = put 7 u c in
          let v : ℕ = plus (one.register 7) (one.register 2) in
          let two : Contents = put 7 v one in
          let kept : two.register r ≡ c.register r = put_other 7 v r one apart ∙ put_other 7 u r c apart in
          let found : plus (two.register 7) (word (lower (4 * i))) ≡ 4 * (base + i) = rw (pointer, halves_to (4 * i) (4 * base) (omega arith)) (omega arith) in
          let once : put 7 v (put 7 u c) ≡ put 7 v c = put_twice 7 u v c in
          runs_quiet s private to (computes s private to (Lui 7 (upper (4 * i))) 7 0 0 (λ x y. word (upper (4 * i))) refl (omega arith) (omega arith) (omega arith) (upper_small (4 * i)))
          (runs_quiet s private to (computes s private to (Add 7 7 2) 7 7 2 plus refl (omega arith) (omega arith) (omega arith) (plus_small (one.register 7) (one.register 2)))
          (runs_quiet s private to (stores_word s private to 7 r (lower (4 * i)) (base + i) (omega arith) high found inside) (rw (kept, once) (run v (plus_small (one.register 7) (one.register 2))))))
