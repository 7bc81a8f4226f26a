-- The start code leads the opened processor to where main's actions begin.
use Rattle.std.proofs.Common.{◌≡◌, ℕ, ◌+◌, ◌-◌, ◌*◌, ◌^◌, ◌<◌, ◌≤◌, Bool, true, false, ◌&&◌, List, [], ◌∷◌, ◌++◌, Some, None, length, refl, sym, ap, ◌∙◌, subst, arith, append_assoc, append-nil, length-append}
use Rattle.std.specs.Prelude.{nat_eq, nat_lt, if◌then◌else◌, replicate, slice_index}
use Rattle.std.specs.List.{AllByRecursion}
use Rattle.std.proofs.lemmas.Bool.Decides.{nat_tests}
use Rattle.std.proofs.lemmas.Option.{same_Some}
use Rattle.std.proofs.lemmas.List.{get_or-replicate}
use Rattle.std.proofs.Math.ListN.{length-replicate}
use Rattle.dae_base.specs.Words.{loaded}
use Rattle.dae_base.specs.declared.LoadKind.TheVariants.{I32}
use Rattle.dae_base.proofs.Laws.{times_least}
use Rattle.dae_encode.specs.declared.Inst.{Inst}
use Rattle.dae_encode.specs.Processor.{Processor}
use Rattle.dae_ir.specs.Classes.{VariableSet}
use Rattle.dae_meaning.specs.Variables.{Env}
use Rattle.dae_ir.specs.Deeds.{Deed, Went}
use Rattle.dae_select_walks.specs.declared.Home.TheVariants.{Register}
use Rattle.dae_select_walks.specs.Walks.{WalkSetting, Comes}
use Rattle.dae_select_walks.specs.Layout.{CodeAt}
use Rattle.dae_select_walks.specs.Homes.{Contents, resident_home, resident_register}
use Rattle.dae_select_walks.specs.Agrees.{Plan, Moment, AreResident, Shows, Stands, counted_depth}
use Rattle.dae_select_walks.proofs.LawsOfWalks.{comes_map, comes_then}
use Rattle.dae_select_walks.proofs.LawsOfWalks.{put}
use Rattle.dae_select_blocks.specs.Blocks.{number_code, residents_code, enter_code, enter_words, prologue_code}
use Rattle.dae_select_blocks.specs.Code.{entry_code, start_code}
use Rattle.dae_select_blocks.specs.Fits.{Fits}
use Rattle.dae_select_blocks.specs.Laws.{opened_with, CodeBegins}
use Rattle.dae_select_blocks.proofs.Lengths.{opening_short, residents_short, finish_some, enter_long, entry_short}
use Rattle.dae_select_blocks.specs.Wanted.{IsLinked}
use Rattle.dae_select_blocks.proofs.Plain.{put_same, put_other}
use Rattle.dae_select_blocks.proofs.Frames.{runs_number}
use Rattle.dae_select_blocks.proofs.Runs.{Runs, runs_nothing, code_take, code_drop, runs_alone}
use Rattle.dae_select_blocks.proofs.Agreement.{resident_high}
use Rattle.dae_select_blocks.proofs.Operands.{like_put}
use Rattle.dae_select_blocks.proofs.Entering.{jumps_in, runs_prologue}

abbrev pub nothing : Contents
nothing = record { register = λ r. 0; word = λ i. 0 }

zero_at : (n i : ℕ) → i < n → slice_index (replicate n 0) i ≡ 0
zero_at n i l = get_or-replicate n i 0 0 l

zero_word : (n i : ℕ) → i < n → loaded I32 (4 * i) (replicate (4 * n) 0) ≡ 0
zero_word n i l =
    let a = zero_at (4 * n) (4 * i) (omega arith) in let b = zero_at (4 * n) (4 * i + 1) (omega arith) in
    let c = zero_at (4 * n) (4 * i + 1 + 1) (omega arith) in let d = zero_at (4 * n) (4 * i + 1 + 1 + 1) (omega arith) in
    omega arith

opened_shows : (private : ℕ) → Shows private nothing 0 (opened_with private)
opened_shows private = record {
  runs = refl;
  counter = refl;
  count = refl;
  registers = λ r l. zero_at 32 r l;
  zero = refl;
  size = length-replicate (4 * private) 0;
  words = λ i l. zero_word private i l;
  fits = λ r. (omega arith);
  holds = λ i. (omega arith);
}

-- ---- the numbers that stay

-- so many registers from this one down have got these numbers
record Wrote (top : ℕ) (numbers : List ℕ) (c c' : Contents) : Type 0 where
  pub words : (i : ℕ) → c'.word i ≡ c.word i
  pub above : (j : ℕ) → top < j → c'.register j ≡ c.register j
  pub below : (j : ℕ) → j + length numbers ≤ top → c'.register j ≡ c.register j
  pub has : (n r : ℕ) → resident_register (resident_home top numbers n) ≡ Some r → c'.register r ≡ n
  pub fits : (j : ℕ) → c'.register j < 2 ^ 32

-- the register at the top has the first of them
first_has : (top x n r : ℕ) (numbers : List ℕ) (c : Contents) → c.register top ≡ x → ((n r : ℕ) → resident_register (resident_home (top - 1) numbers n) ≡ Some r → c.register r ≡ n) → resident_register (resident_home top (x ∷ numbers) n) ≡ Some r → c.register r ≡ n
first_has top x n r numbers c here rest = by (nat_eq n x) refl
  where
    told : (b : Bool) → n ≡ x → (if b then Some top else None) ≡ Some r → c.register r ≡ n
    told true same e = let at' : top ≡ r = same_Some top r e in subst (λ (q : ℕ). c.register q ≡ n) at' (here ∙ sym same)
    told false same e = absurd (let none : None ≡ Some r = e in cc)

    by : (b : Bool) → nat_eq n x ≡ b → resident_register (if b then Register top else resident_home (top - 1) numbers n) ≡ Some r → c.register r ≡ n
    by true t e = let same : n ≡ x = grind (arith, nat_tests) in told (nat_lt 24 top && nat_lt top 28) same e
    by false t e = rest n r e

runs_residents : (s : WalkSetting) (private : ℕ) (to : ℕ → Env → Processor → Type 0) {c : Contents} {d : Deed} (top : ℕ) (numbers : List ℕ) (is : List Inst) → length numbers < top → top < 28 → AllByRecursion (λ n. n < 2 ^ 32) numbers → c.register 0 ≡ 0 → ((j : ℕ) → c.register j < 2 ^ 32) →
    ((c' : Contents) → Wrote top numbers c c' → Runs s private to is c' d) → Runs s private to (residents_code top numbers ++ is) c d
runs_residents s private to {c} top [] is some high small none fits run = run c (record { words = λ i. refl; above = λ j l. refl; below = λ j l. refl; has = λ n r e. absurd (let no : None ≡ Some r = e in cc); fits = fits })
runs_residents s private to {c} top (x ∷ numbers) is some high small none fits run =
    rw append_assoc (runs_number s private to top x (residents_code (top - 1) numbers ++ is) none (omega arith) high small.0 (
    let like = like_put top x c small.0 fits in
    runs_residents s private to {c = put top x c} (top - 1) numbers is (omega arith) (omega arith) small.1 (like.registers 0 (omega arith) ∙ none) like.fits (λ c2 rest.
    let here : c2.register top ≡ x = rest.above top (omega arith) ∙ put_same top x c (omega arith) high in
    run c2 (record {
      words = λ i. rest.words i;
      above = λ j l. rest.above j (omega arith) ∙ put_other top x j c (omega arith);
      below = λ j l. rest.below j (omega arith) ∙ put_other top x j c (omega arith);
      has = λ n r e. first_has top x n r numbers c2 here rest.has e;
      fits = rest.fits;
    }))))

-- ---- the code that begins

-- before main is called
record Begun (plan : Plan) (first k : ℕ) (p : Processor) : Type 0 where
  pub contents : Contents
  pub shows : Shows plan.private contents k p
  pub words : (i : ℕ) → contents.word i ≡ 0
  pub two : contents.register 2 ≡ 0
  pub three : contents.register 3 ≡ first
  pub four : plan.by_a ≡ true → contents.register 4 ≡ plan.memory - 16
  pub ten : plan.by_a ≡ true → contents.register 10 ≡ 0
  pub residents : AreResident plan contents

module _ (s : WalkSetting) (plan : Plan) (variables : ℕ → ℕ) (fine : Fits s plan variables) (entries : ℕ → VariableSet) (linked : IsLinked s plan) where
  abbrev before_main : ℕ → List Inst
  before_main first = number_code 3 first ++ (residents_code 27 plan.residents ++ (if plan.by_a then number_code 4 (plan.memory - 16) else []))

  begun : (first : ℕ) → first ≤ plan.memory → length (before_main first) < 2 ^ 29 → CodeAt s.code 0 (before_main first) → Comes s (length (before_main first)) (opened_with plan.private) (Begun plan first (0 + length (before_main first)))
  begun first fits small at =
      let most = fine.common in let few = fine.few in
      let to : ℕ → Env → Processor → Type 0 = λ k env q. Begun plan first k q in
      let like = like_put 3 first nothing (omega arith) (λ j. (omega arith)) in
      let run : Runs s plan.private to (before_main first) nothing (Went (λ _. 0)) =
      runs_number s plan.private to 3 first _ refl (omega arith) (omega arith) (omega arith) (
      runs_residents s plan.private to 27 plan.residents _ (omega arith) (omega arith) fine.small refl like.fits (λ c wrote. by plan.by_a refl c wrote)) in
      run.from 0 (omega arith) at (opened_with plan.private) (opened_shows plan.private)
    where
      by : (b : Bool) → plan.by_a ≡ b → (c : Contents) → Wrote 27 plan.residents (put 3 first nothing) c → Runs s plan.private (λ k env q. Begun plan first k q) (if b then number_code 4 (plan.memory - 16) else []) c (Went (λ _. 0))
      by true e c wrote =
          let most = fine.common in let few = fine.few in
          let to : ℕ → Env → Processor → Type 0 = λ k env q. Begun plan first k q in
          let none : c.register 0 ≡ 0 = wrote.below 0 (omega arith) in
          let c1 : Contents = put 4 (plan.memory - 16) c in
          let last : Runs s plan.private to (number_code 4 (plan.memory - 16) ++ []) c (Went (λ _. 0)) = runs_number s plan.private to 4 (plan.memory - 16) [] none (omega arith) (omega arith) (omega arith) (
          runs_nothing s plan.private to (λ k q shows. record {
            contents = c1;
            shows = shows;
            words = (λ i. wrote.words i);
            two = wrote.below 2 (omega arith);
            three = wrote.below 3 (omega arith);
            four = (λ _. refl);
            ten = (λ _. wrote.below 10 (omega arith));
            residents = (λ n r e.
                let high = resident_high (resident_home 27 plan.residents n) r e in
                put_other 4 (plan.memory - 16) r c (omega arith) ∙ wrote.has n r e);
          })) in
          rw append-nil at last
      by false e c wrote =
          let few = fine.few in
          runs_nothing s plan.private (λ k env q. Begun plan first k q) (λ k q shows. record { contents = c; shows = shows; words = (λ i. wrote.words i); two = wrote.below 2 (omega arith); three = wrote.below 3 (omega arith); four = (λ t. absurd cc); ten = (λ t. absurd cc); residents = (λ n r e. wrote.has n r e) })

  -- main reads nothing at its entry
  pub begins : (main first : ℕ) → main < plan.functions → ((u : ℕ) → entries main u ≡ false) → first ≤ plan.memory → 1 ≤ plan.limit → plan.limit * plan.largest ≤ plan.private → plan.finish ≡ length (start_code plan main first) →
      CodeAt s.code 0 (start_code plan main first) → Comes s (length (start_code plan main first) + length (entry_code plan main)) (opened_with plan.private) (Stands plan (entries main) (record { function = main; env = (λ _. 0); frame = first; waiting = [] }) (plan.start main))
  begins main first there reads fits deep room ends at =
      let m : Moment = record { function = main; env = (λ _. 0); frame = first; waiting = [] } in
      let most = fine.common in let low = linked.low in
      let start = linked.start main there in let near = linked.near main there in let entry = linked.entry main there in
      let size = length-append (before_main first) (enter_code plan.near (plan.entry main)) in
      let jump_long = enter_long plan.near (plan.entry main) in
      let one = begun first fits (omega arith) (code_take s.code 0 (before_main first) (enter_code plan.near (plan.entry main)) at) in
      let jump = code_drop s.code 0 (before_main first) (enter_code plan.near (plan.entry main)) at in
      let largest = fine.largest main in let long = fine.words main in let wide = fine.private in
      let once = times_least plan.limit plan.largest deep in
      let two = comes_then s one (λ q b. comes_then s (jumps_in s plan variables fine entries linked (plan.entry main) plan.near (linked.close main there) (omega arith) (omega arith) jump b.shows) (λ r j.
      let c1 : Contents = put 1 (4 * (0 + length (before_main first) + enter_words plan.near)) j.0 in
      let back : 0 + length (before_main first) + enter_words plan.near ≡ plan.finish = omega arith in
      let to : ℕ → Env → Processor → Type 0 = λ k env o. Stands plan (entries main) m k o in
      let l1 = j.1 in
      let l2 = like_put 1 (4 * (0 + length (before_main first) + enter_words plan.near)) j.0 (omega arith) l1.fits in
      let pointer : c1.register 2 ≡ 0 = l1.registers 2 (omega arith) ∙ b.two in
      let last : Runs s plan.private to (prologue_code plan.by_a (plan.leaf main) ++ []) c1 (Went (λ _. 0)) =
      runs_prologue s plan variables fine entries linked to main 0 [] (λ calls. pointer) (omega arith) l2.fits (λ i. subst (λ (x : ℕ). x < 2 ^ 32) (sym (l1.words i)) (b.shows.holds i)) (λ e. subst (λ (x : ℕ). x < 2 ^ 20) (sym (l1.registers 10 (omega arith) ∙ b.ten e)) (omega arith)) (λ c2 opened.
      runs_nothing s plan.private to (λ k o shows. record {
        contents = c2;
        shows = shows;
        agrees = record {
          base = 0;
          variables = (λ u e. absurd (contradicts u e));
          pointer = opened.registers 2 (omega arith) ∙ (pointer ∙ none (plan.frameless main));
          frame = opened.registers 3 (omega arith) ∙ (l1.registers 3 (omega arith) ∙ b.three);
          depth = (λ e. opened.ten e ∙ ap (λ (n : ℕ). counted_depth plan main (n + 1)) (l1.registers 10 (omega arith) ∙ b.ten e));
          addresses = (λ e. opened.registers 4 (omega arith) ∙ (l1.registers 4 (omega arith) ∙ b.four e));
          residents = (λ n o e.
              let high = resident_high (resident_home 27 plan.residents n) o e in
              opened.registers o (omega arith) ∙ (l2.registers o (omega arith) ∙ (l1.registers o (omega arith) ∙ b.residents n o e)));
          waiting = (refl, (omega arith), opened.address ∙ ap (λ n. 4 * n) back);
          room = (let same : plan.limit + 1 - 1 ≡ plan.limit = omega arith in rw same (omega arith));
          within = record { depth = deep; frame = fits };
        };
      })) in
      let run : Runs s plan.private to (entry_code plan main) c1 (Went (λ _. 0)) = runs_alone s plan.private to (entry_code plan main) last in
      subst (λ (n : ℕ). Comes s (length (entry_code plan main)) r (Stands plan (entries main) m n)) (sym start) (run.from (plan.entry main) (omega arith) entry r j.2))) in
      comes_map s (length (start_code plan main first) + length (entry_code plan main)) (omega arith) (λ q g. g) two
    where
      contradicts : (u : ℕ) → entries main u ≡ true → ⊥
      contradicts u e = let no' = reads u in absurd cc

      none : (frameless : Bool) → 0 ≡ 4 * (if frameless then 0 - 0 else 0)
      none true = refl
      none false = refl

pub code_begins : CodeBegins
code_begins s plan variables entries main frames fine linked b =
    let l1 = entry_short plan main in let l2 = opening_short plan main frames in let l3 = finish_some plan.by_a in
    let l4 = residents_short 27 plan.residents in let few = fine.few in
    comes_map s 14 (omega arith) (λ q g. g) (begins s plan variables fine entries linked main frames b.there b.reads b.first b.deep b.room b.finish b.code)
