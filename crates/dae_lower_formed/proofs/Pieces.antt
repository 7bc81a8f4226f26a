-- The parts of statements make good code: the loops of text and of zeros, items of aggregates, and the search for an arm.
use Rattle.std.proofs.Common.{◌≡◌, ℕ, zero, suc, ◌+◌, ◌<◌, ◌≤◌, ◌^◌, Bool, true, List, [], ◌∷◌, refl, arith}
use Rattle.std.specs.List.{AllByRecursion}
use Rattle.std.proofs.lemmas.Bool.{and_from}
use Rattle.dae_base.specs.declared.Place.{Place}
use Rattle.dae_ir.specs.Classes.{VariableSet, IsWithin}
use Rattle.dae_ir.specs.SetFirst.{with_set, all_set}
use Rattle.dae_ir.specs.declared.form.Function.{Function}
use Rattle.dae_ir.specs.declared.form.Item.TheVariants.{Print}
use Rattle.dae_ir.specs.declared.form.Operand.{Operand}
use Rattle.dae_ir.specs.declared.form.Operand.TheVariants.{Number}
use Rattle.dae_meaning.specs.declared.Spelling.TheVariants.{Byte}
use Rattle.dae_program.specs.Printing.{argument}
use Rattle.dae_program.specs.declared.statements.FormatPiece.{FormatPiece}
use Rattle.dae_program.specs.declared.statements.FormatPiece.TheVariants as piece
use Rattle.dae_lower.specs.Lowering.{Made, ◌≫◌, emit, loop, unread, preheader, headed_loop, text_loop, prints, turn_bytes, zeros_at, zeros}
use Rattle.dae_lower_formed.specs.Bytes.{IsByte}
use Rattle.dae_program.specs.SetFirst.{both}
use Rattle.dae_lower_formed.proofs.Good.{IsGood, set_here, set_on, good_wider, operand_wider}
use Rattle.dae_lower_formed.proofs.Makes.{OperandFits, AllFit, Anything, all_still, number_fits, Makes, chain, nothing_makes, item_makes}

argument_fits : (n : ℕ) (d : VariableSet) (xs : List Operand) (k : ℕ) → AllFit n d xs → OperandFits n d (argument (Number 0) xs k)
argument_fits n d [] k h = number_fits n d 0 (omega arith)
argument_fits n d (x ∷ xs) zero h = h.0
argument_fits n d (x ∷ xs) (suc k) h = argument_fits n d xs k h.1

-- zeros from the address in a variable on that is set
zeros_good : (functions : List Function) (i r : Bool) (n : ℕ) (d : VariableSet) (p : Place) (v count : ℕ) → 0 < v → v < n → d v ≡ true → IsGood functions i r n d (zeros_at p v count)
zeros_good functions i r n d p v zero some l h = tt
zeros_good functions i r n d p v (suc count) some l h =
    ((refl, (l, omega arith), (h, refl)), ((refl, ((some, l), (l, omega arith)), and_from (d v) true h refl), zeros_good functions i r n (with_set v d) p v count some l (set_here v d)))

module _ (functions : List Function) {i r : Bool} where
  -- a loop, behind which nothing more is known
  pub loop_makes : {n m : ℕ} {d b c e : VariableSet} {body : Made (Unit {0})} (p : Place) (step : ℕ → Made (Unit {0})) → m ≤ n → IsWithin c d → Makes functions true r Anything n d b body →
      ((q : ℕ) → m ≤ q → Makes functions true r Anything q d e (step q)) → Makes functions i r Anything n d c (loop p body step)
  loop_makes {n} {m} {d} {b} {c} {e} {body} p step j w h next = record {
    grows = omega (arith, h.grows, second.grows);
    good = (good_wider functions true r body.next (step body.next).next second.grows body.code d h.good, second.good, tt);
    sets = w;
    given = tt;
  } where
    second : Makes functions true r Anything body.next d e (step body.next)
    second = next body.next (omega (arith, j, h.grows))

  -- what stands before a loop
  unread_makes : {n m : ℕ} {d c : VariableSet} (p : Place) → 0 < m → m ≤ n → IsWithin c d → Makes functions i r Anything n d c (unread p n)
  unread_makes {n} {m} {d} {c} p some j w = record {
    grows = omega arith;
    good = ((refl, ((omega (arith, some, j), omega arith), omega arith), refl), tt);
    sets = λ v z. set_on n d v (w v z);
    given = tt;
  }

  preheader_makes : {n m : ℕ} {d c : VariableSet} (p : Place) → 0 < m → m ≤ n → IsWithin c d → Makes functions i r Anything n d c (preheader p n)
  preheader_makes {n} {m} {d} {c} p some j w =
      chain functions (λ x n. unread p n ≫ λ x. unread p) j (unread_makes p some j w)
      (λ q e x k o t u y. chain functions (λ x. unread p) k (unread_makes p some k u) (λ v f x l z s h y. unread_makes p some l h))

  -- a loop behind its preheader
  pub headed_makes : {n m : ℕ} {d b c e : VariableSet} (p : Place) (body step : ℕ → Made (Unit {0})) → 0 < m → m ≤ n → IsWithin c d →
      ((q : ℕ) (f : VariableSet) → m ≤ q → IsWithin d f → Makes functions true r Anything q f b (body q)) →
      ((q : ℕ) (f : VariableSet) → m ≤ q → IsWithin d f → Makes functions true r Anything q f e (step q)) →
      Makes functions i r Anything n d c (headed_loop p body step n)
  headed_makes p body step some j w turn behind =
      chain functions (λ x n. loop p (body n) step) j (preheader_makes p some j w)
      (λ q f x k o t u y. loop_makes p step k u (turn q f k t) (λ v l. behind v f l t))

  -- ---- printing

  pub text_makes : {n m : ℕ} {d c : VariableSet} (p : Place) (x : Operand) → 0 < m → m ≤ n → IsWithin c d → OperandFits n d x → Makes functions i r Anything n d c (text_loop p x n)
  text_makes {n} {m} {d} {c} p x some j w h =
      let at = with_set n d in
      let byte = with_set (n + 1) at in
      let here = set_here n d in
      let there = set_here (n + 1) at in
      record {
        grows = omega arith;
        good = (
          (refl, ((omega (arith, some, j), omega arith), operand_wider functions n (n + 2) (omega arith) x h.0), h.1),
          (
            (
              (refl, omega arith, here),
              (
                (refl, ((omega arith, omega arith), omega arith), here),
                (
                  ((omega arith, omega arith), and_from (byte (n + 1)) true there refl),
                  tt,
                  ((refl, tt, tt), tt),
                  ((refl, omega arith, and_from (byte (n + 1)) true there refl), tt),
                ),
              ),
            ),
            ((refl, ((omega (arith, some, j), omega arith), (omega arith, omega arith)), and_from (at n) true here refl), tt),
            tt,
          ),
        );
        sets = λ v z. set_on n d v (w v z);
        given = tt;
      }

  pub prints_make : {m : ℕ} {c : VariableSet} (p : Place) (ps : List FormatPiece) (xs : List Operand) → AllByRecursion IsByte ps → 0 < m → (n : ℕ) (d : VariableSet) → m ≤ n → IsWithin c d → AllFit n d xs → Makes functions i r Anything n d c (prints p ps xs n)
  prints_make p [] xs h some n d j w g = nothing_makes functions tt w tt
  prints_make p (piece.Byte b ∷ ps) xs h some n d j w g =
      chain functions (λ x. prints p ps xs) j (item_makes functions p (Print Byte (Number b)) w (refl, (let k = h.0 in omega (arith, k)), refl))
      (λ q e y k o t u x. prints_make p ps xs h.1 some q e k u (all_still n q d e o t xs g))
  prints_make p (piece.Word spelling a ∷ ps) xs h some n d j w g =
      let x = argument_fits n d xs a g in
      chain functions (λ x. prints p ps xs) j (item_makes functions p (Print spelling (argument (Number 0) xs a)) w (refl, x.0, x.1))
      (λ q e y k o t u x. prints_make p ps xs h.1 some q e k u (all_still n q d e o t xs g))
  prints_make p (piece.String a ∷ ps) xs h some n d j w g =
      chain functions (λ x. prints p ps xs) j (text_makes p (argument (Number 0) xs a) some j w (argument_fits n d xs a g))
      (λ q e y k o t u x. prints_make p ps xs h.1 some q e k u (all_still n q d e o t xs g))

  -- ---- aggregates

  pub zeros_make : {n m : ℕ} {d c : VariableSet} (p : Place) (offset size : ℕ) → 0 < m → m ≤ n → IsWithin c d → size < 2 ^ 32 → Makes functions i r Anything (n + 1) d c (emit (zeros p offset size n) (n + 2))
  zeros_make {n} {m} {d} {c} p offset size some j w g =
      let end = with_set (n + 1) d in
      let first = with_set n end in
      let inside = both first all_set in
      let at = set_here n end in
      let last = set_on n end (n + 1) (set_here (n + 1) d) in
      record {
        grows = omega arith;
        good = (
          (refl, ((omega arith, omega arith), omega arith), refl),
          (
            (refl, ((omega (arith, some, j), omega arith), (omega arith, g)), and_from (end (n + 1)) true (set_here (n + 1) d) refl),
            (
              (((omega arith, omega arith), and_from (first n) (first (n + 1)) at last), tt, ((refl, tt, tt), tt), zeros_good functions true r (n + 2) inside p n (turn_bytes size) (omega (arith, some, j)) (omega arith) (and_from (first n) true at refl)),
              tt,
              tt,
            ),
          ),
        );
        sets = λ v z. set_on n end v (set_on (n + 1) d v (w v z));
        given = tt;
      }
