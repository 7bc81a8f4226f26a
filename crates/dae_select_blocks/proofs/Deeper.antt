-- The frames of the function that is called follow the caller's, where it has them, and are given up again.
use Rattle.std.proofs.Common.{◌≡◌, ◌≢◌, ℕ, ◌+◌, ◌*◌, ◌%◌, ◌^◌, ◌<◌, ◌≤◌, Bool, true, false, List, [], ◌∷◌, ◌++◌, refl, ◌∙◌, arith, append_assoc}
use Rattle.std.specs.Prelude.{if◌then◌else◌, nat_eq, ℤ}
use Rattle.std.proofs.lemmas.Bool.Decides.{nat_tests}
use Rattle.dae_base.specs.Words.{plus, minus, word}
use Rattle.dae_base.proofs.Laws.{plus_small}
use Rattle.dae_encode.specs.declared.Inst.{Inst}
use Rattle.dae_encode.specs.declared.Inst.TheVariants.{Add, Sub, Addi}
use Rattle.dae_encode.specs.Processor.{Processor}
use Rattle.dae_meaning.specs.Variables.{Env}
use Rattle.dae_ir.specs.Deeds.{Deed}
use Rattle.dae_select_walks.specs.Walks.{WalkSetting}
use Rattle.dae_select_walks.specs.Homes.{Contents}
use Rattle.dae_select_walks.specs.Agrees.{Plan}
use Rattle.dae_select_walks.proofs.LawsOfWalks.{put}
use Rattle.dae_select_blocks.specs.Blocks.{lower, is_immediate, number_code, more_code, less_code, count_code, deeper_code, back_code}
use Rattle.dae_select_blocks.proofs.Plain.{computes, put_same, put_other}
use Rattle.dae_select_blocks.proofs.Halves.{immediate_word}
use Rattle.dae_select_blocks.proofs.Frames.{runs_number}
use Rattle.dae_select_blocks.proofs.Runs.{Runs, runs_quiet}
use Rattle.dae_select_blocks.proofs.Operands.{like_put}

-- where the frames begin; the other registers but x5, and all words, are as they were
pub record Moved (base frame : ℕ) (c c' : Contents) : Type 0 where
  pub words : (i : ℕ) → c'.word i ≡ c.word i
  pub two : c'.register 2 ≡ 4 * base
  pub three : c'.register 3 ≡ frame
  pub others : (j : ℕ) → j ≢ 2 → j ≢ 3 → j ≢ 5 → c'.register j ≡ c.register j
  pub fits : (j : ℕ) → c'.register j < 2 ^ 32

-- on A so much is counted; all else is as it was
pub record Counts (plan : Plan) (depth : ℕ) (c c' : Contents) : Type 0 where
  pub words : (i : ℕ) → c'.word i ≡ c.word i
  pub ten : plan.by_a ≡ true → c'.register 10 ≡ depth
  pub others : (j : ℕ) → j ≢ 10 → c'.register j ≡ c.register j
  pub fits : (j : ℕ) → c'.register j < 2 ^ 32

-- a register has another word, and the register for work may have one too
record Shifted (r x : ℕ) (c c' : Contents) : Type 0 where
  pub words : (i : ℕ) → c'.word i ≡ c.word i
  pub here : c'.register r ≡ x
  pub others : (j : ℕ) → j ≢ r → j ≢ 5 → c'.register j ≡ c.register j
  pub fits : (j : ℕ) → c'.register j < 2 ^ 32

shifted : (r x : ℕ) (c c' : Contents) → 0 < r → r < 5 → x < 2 ^ 32 → ((i : ℕ) → c'.word i ≡ c.word i) → ((j : ℕ) → j ≢ 5 → c'.register j ≡ c.register j) → ((j : ℕ) → c'.register j < 2 ^ 32) → Shifted r x c (put r x c')
shifted r x c c' low high small words others fits = record {
  words = words;
  here = put_same r x c' low (omega arith);
  others = (λ j ne other. put_other r x j c' ne ∙ others j other);
  fits = (like_put r x c' small fits).fits;
}

module _ (s : WalkSetting) (plan : Plan) (to : ℕ → Env → Processor → Type 0) where
  runs_more : {c : Contents} {d : Deed} (r n x : ℕ) (is : List Inst) → c.register 0 ≡ 0 → ((j : ℕ) → c.register j < 2 ^ 32) → 0 < r → r < 5 → c.register r ≡ x → n < 2 ^ 32 → x + n < 2 ^ 32 →
      ((c' : Contents) → Shifted r (x + n) c c' → Runs s plan.private to is c' d) → Runs s plan.private to (more_code r n ++ is) c d
  runs_more {c} {d} r n x is zero fits low high found fits_n small run = by (nat_eq n 0) refl (is_immediate n) refl
    where
      by : (b : Bool) → nat_eq n 0 ≡ b → (i : Bool) → is_immediate n ≡ i → Runs s plan.private to ((if b then [] else (if i then Addi r r (lower n) ∷ [] else number_code 5 n ++ Add r r 5 ∷ [])) ++ is) c d
      by true e i f =
          let none : n ≡ 0 = grind (arith, nat_tests) in
          run c (record { words = (λ i. refl); here = found ∙ (omega arith); others = (λ j a b. refl); fits = fits })
      by false e true f =
          let same : plus (c.register r) (word (lower n)) ≡ x + n = rw (found, immediate_word n fits_n f) (omega arith) in
          runs_quiet s plan.private to (computes s plan.private to (Addi r r (lower n)) r r 0 (λ x y. plus x (word (lower n))) refl (omega arith) (omega arith) (omega arith) (plus_small (c.register r) (word (lower n)))) (rw same (
          run (put r (x + n) c) (shifted r (x + n) c c low high small (λ i. refl) (λ j a. refl) fits)))
      by false e false f =
          let c1 : Contents = put 5 n c in
          let like = like_put 5 n c fits_n fits in
          let still : c1.register r ≡ x = put_other 5 n r c (omega arith) ∙ found in
          let same : plus (c1.register r) (c1.register 5) ≡ x + n = rw still (omega arith) in
          rw append_assoc (runs_number s plan.private to 5 n (Add r r 5 ∷ is) zero (omega arith) (omega arith) fits_n (
          runs_quiet s plan.private to (computes s plan.private to {c = c1} (Add r r 5) r r 5 plus refl (omega arith) (omega arith) (omega arith) (plus_small (c1.register r) (c1.register 5))) (rw same (
          run (put r (x + n) c1) (shifted r (x + n) c c1 low high small (λ i. refl) (λ j a. put_other 5 n j c a) like.fits)))))

  subtracted : (x y : ℕ) → minus x y < 2 ^ 32
  subtracted x y = omega arith

  runs_less : {c : Contents} {d : Deed} (r n x : ℕ) (is : List Inst) → c.register 0 ≡ 0 → ((j : ℕ) → c.register j < 2 ^ 32) → 0 < r → r < 5 → c.register r ≡ x + n → n < 2 ^ 32 → x + n < 2 ^ 32 →
      ((c' : Contents) → Shifted r x c c' → Runs s plan.private to is c' d) → Runs s plan.private to (less_code r n ++ is) c d
  runs_less {c} {d} r n x is zero fits low high found fits_n small run = by (nat_eq n 0) refl (is_immediate (minus 0 n)) refl
    where
      by : (b : Bool) → nat_eq n 0 ≡ b → (i : Bool) → is_immediate (minus 0 n) ≡ i → Runs s plan.private to ((if b then [] else (if i then Addi r r (lower (minus 0 n)) ∷ [] else number_code 5 n ++ Sub r r 5 ∷ [])) ++ is) c d
      by true e i f =
          let none : n ≡ 0 = grind (arith, nat_tests) in
          run c (record { words = (λ i. refl); here = found ∙ (omega arith); others = (λ j a b. refl); fits = fits })
      by false e true f =
          let some : n ≢ 0 = grind (arith, nat_tests) in
          let same : plus (c.register r) (word (lower (minus 0 n))) ≡ x = rw (found, immediate_word (minus 0 n) (omega arith) f) (omega arith) in
          runs_quiet s plan.private to (computes s plan.private to (Addi r r (lower (minus 0 n))) r r 0 (λ x y. plus x (word (lower (minus 0 n)))) refl (omega arith) (omega arith) (omega arith) (plus_small (c.register r) (word (lower (minus 0 n))))) (rw same (
          run (put r x c) (shifted r x c c low high (omega arith) (λ i. refl) (λ j a. refl) fits)))
      by false e false f =
          let c1 : Contents = put 5 n c in
          let like = like_put 5 n c fits_n fits in
          let still : c1.register r ≡ x + n = put_other 5 n r c (omega arith) ∙ found in
          let same : minus (c1.register r) (c1.register 5) ≡ x = rw still (omega arith) in
          rw append_assoc (runs_number s plan.private to 5 n (Sub r r 5 ∷ is) zero (omega arith) (omega arith) fits_n (
          runs_quiet s plan.private to (computes s plan.private to {c = c1} (Sub r r 5) r r 5 minus refl (omega arith) (omega arith) (omega arith) (subtracted (c1.register r) (c1.register 5))) (rw same (
          run (put r x c1) (shifted r x c c1 low high (omega arith) (λ i. refl) (λ j a. put_other 5 n j c a) like.fits)))))

  -- the depth changes by one, on A
  pub runs_count : {c : Contents} {d : Deed} (depth : ℕ) (more : ℤ) (is : List Inst) → ((j : ℕ) → c.register j < 2 ^ 32) → (plan.by_a ≡ true → plus (c.register 10) (word more) ≡ depth) → ((c' : Contents) → Counts plan depth c c' → Runs s plan.private to is c' d) →
      Runs s plan.private to (count_code plan.by_a more ++ is) c d
  runs_count {c} {d} depth more is fits ten run = by plan.by_a refl
    where
      by : (b : Bool) → plan.by_a ≡ b → Runs s plan.private to ((if b then Addi 10 10 more ∷ [] else []) ++ is) c d
      by true e =
          let small : plus (c.register 10) (word more) < 2 ^ 32 = plus_small (c.register 10) (word more) in
          let fits' : depth < 2 ^ 32 = rw (ten e) at small in
          runs_quiet s plan.private to (computes s plan.private to (Addi 10 10 more) 10 10 0 (λ x y. plus x (word more)) refl (omega arith) (omega arith) (omega arith) small) (rw (ten e) (
          run (put 10 depth c) (record { words = (λ i. refl); ten = (λ _. refl); others = (λ j ne. put_other 10 depth j c ne); fits = (like_put 10 depth c fits' fits).fits })))
      by false e =
          run c (record { words = (λ i. refl); ten = (λ t. absurd cc); others = (λ j ne. refl); fits = fits })

  pub runs_deeper : {c : Contents} {d : Deed} (f g base frame : ℕ) (is : List Inst) → c.register 0 ≡ 0 → ((j : ℕ) → c.register j < 2 ^ 32) → c.register 2 ≡ 4 * base → c.register 3 ≡ frame → frame + plan.frame f < 2 ^ 32 → base + plan.words f ≤ 2 ^ 28 →
      ((c' : Contents) → Moved (if plan.frameless g then base else base + plan.words f) (frame + plan.frame f) c c' → Runs s plan.private to is c' d) → Runs s plan.private to (deeper_code plan f g ++ is) c d
  runs_deeper {c} {d} f g base frame is zero fits two three top wide run =
      let whole : plan.frame f % 2 ^ 32 ≡ plan.frame f = omega arith in
      rw (append_assoc, whole) (runs_more 3 (plan.frame f) frame _ zero fits (omega arith) (omega arith) three (omega arith) top (λ c1 one. own c1 one (plan.frameless g) run))
    where
      own : (c1 : Contents) → Shifted 3 (frame + plan.frame f) c c1 → (frameless : Bool) → ((c' : Contents) → Moved (if frameless then base else base + plan.words f) (frame + plan.frame f) c c' → Runs s plan.private to is c' d) → Runs s plan.private to ((if frameless then [] else more_code 2 (4 * plan.words f)) ++ is) c1 d
      own c1 one true run = run c1 (record { words = (λ i. one.words i); two = one.others 2 (omega arith) (omega arith) ∙ two; three = one.here; others = (λ j n2 n3 n5. one.others j n3 n5); fits = one.fits })
      own c1 one false run =
          runs_more 2 (4 * plan.words f) (4 * base) is (one.others 0 (omega arith) (omega arith) ∙ zero) one.fits (omega arith) (omega arith) (one.others 2 (omega arith) (omega arith) ∙ two) (omega arith) (omega arith) (λ c2 other.
          run c2 (record { words = (λ i. other.words i ∙ one.words i); two = other.here ∙ (omega arith); three = other.others 3 (omega arith) (omega arith) ∙ one.here; others = (λ j n2 n3 n5. other.others j n2 n5 ∙ one.others j n3 n5); fits = other.fits }))

  pub runs_back : {c : Contents} {d : Deed} (f g base frame : ℕ) (is : List Inst) → c.register 0 ≡ 0 → ((j : ℕ) → c.register j < 2 ^ 32) → c.register 2 ≡ 4 * (if plan.frameless g then base else base + plan.words f) → c.register 3 ≡ frame + plan.frame f → frame + plan.frame f < 2 ^ 32 → base + plan.words f ≤ 2 ^ 28 →
      ((c' : Contents) → Moved base frame c c' → Runs s plan.private to is c' d) → Runs s plan.private to (back_code plan f g ++ is) c d
  runs_back {c} {d} f g base frame is zero fits two three top wide run =
      let whole : plan.frame f % 2 ^ 32 ≡ plan.frame f = omega arith in
      rw (append_assoc, whole) (runs_less 3 (plan.frame f) frame _ zero fits (omega arith) (omega arith) three (omega arith) top (λ c1 one. own c1 one (plan.frameless g) two))
    where
      own : (c1 : Contents) → Shifted 3 frame c c1 → (frameless : Bool) → c.register 2 ≡ 4 * (if frameless then base else base + plan.words f) → Runs s plan.private to ((if frameless then [] else less_code 2 (4 * plan.words f)) ++ is) c1 d
      own c1 one true here = run c1 (record { words = (λ i. one.words i); two = one.others 2 (omega arith) (omega arith) ∙ here; three = one.here; others = (λ j n2 n3 n5. one.others j n3 n5); fits = one.fits })
      own c1 one false here =
          runs_less 2 (4 * plan.words f) (4 * base) is (one.others 0 (omega arith) (omega arith) ∙ zero) one.fits (omega arith) (omega arith) (one.others 2 (omega arith) (omega arith) ∙ (here ∙ (omega arith))) (omega arith) (omega arith) (λ c2 other.
          run c2 (record { words = (λ i. other.words i ∙ one.words i); two = other.here; three = other.others 3 (omega arith) (omega arith) ∙ one.here; others = (λ j n2 n3 n5. other.others j n2 n5 ∙ one.others j n3 n5); fits = other.fits }))
