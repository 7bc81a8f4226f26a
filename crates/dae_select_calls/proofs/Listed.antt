-- Lists from a place on, and what of variables and registers is found.
use Rattle.std.proofs.Common.{◌≡◌, ℕ, zero, suc, ◌-◌, ◌<◌, ◌≤◌, Bool, true, false, ◌&&◌, ◌||◌, List, [], ◌∷◌, ◌++◌, ◌+◌, length, take, drop, get_or, refl, ap, sym, ◌∙◌, arith, append_assoc, take_all, length-drop}
use Rattle.std.proofs.Math.Path.{fun_ext}
use Rattle.std.specs.Prelude.{nat_eq, nat_lt}
use Rattle.std.proofs.lemmas.Bool.Decides.{nat_tests}
use Rattle.dae_encode.specs.declared.Inst.{Inst}
use Rattle.dae_ir.specs.declared.stream.Argument.{Argument}
use Rattle.dae_select_walks.specs.Live.{none, with_all}
use Rattle.dae_select_walks.specs.declared.Home.{Home}
use Rattle.dae_select_live.specs.Members.{member}
use Rattle.dae_select_live.proofs.Laws.{member_more, drop_get}
use Rattle.dae_select_blocks.specs.Blocks.{is_register}
use Rattle.dae_select_blocks.specs.Code.{some_below}

-- from the place before j on
pub drop_before : {X : Type 0} (list : List X) (j : ℕ) (other : X) → 0 < j → j ≤ length list → drop (j - 1) list ≡ get_or list (j - 1) other ∷ drop j list
drop_before list j other some le =
    let back : suc (j - 1) ≡ j = omega arith in
    drop_get list (j - 1) other (omega arith) ∙ ap (λ (n : ℕ). get_or list (j - 1) other ∷ drop n list) back

-- ---- registers that are held

none_below : (n : ℕ) (g : ℕ → Bool) → some_below n (λ v. false && g v) ≡ false
none_below zero g = refl
none_below (suc n) g = none_below n g

it_is : (a q t : Bool) → ((a || true) && q) || t ≡ q || ((a && q) || t)
it_is true true t = refl
it_is true false t = refl
it_is false true t = refl
it_is false false t = refl

it_is_not : (a q c t : Bool) → ((a || false) && q) || (c || t) ≡ c || ((a && q) || t)
it_is_not true true true t = refl
it_is_not true true false t = refl
it_is_not true false c t = refl
it_is_not false q c t = refl

less_more : (n x : ℕ) → nat_eq n x ≡ false → nat_lt x (suc n) ≡ nat_lt x n
less_more n x e = by (nat_lt x n) refl
  where
    by : (b : Bool) → nat_lt x n ≡ b → nat_lt x (suc n) ≡ b
    by true t = grind (arith, nat_tests)
    by false t = grind (arith, nat_tests)

-- below n one variable more
one_below : (n x : ℕ) (f g : ℕ → Bool) → some_below n (λ v. (f v || nat_eq v x) && g v) ≡ (nat_lt x n && g x) || some_below n (λ v. f v && g v)
one_below zero x f g = (let none : nat_lt x 0 ≡ false = grind (arith, nat_tests) in rw none refl)
one_below (suc n) x f g = by (nat_eq n x) refl (one_below n x f g)
  where
    by : (b : Bool) → nat_eq n x ≡ b → some_below n (λ v. (f v || nat_eq v x) && g v) ≡ (nat_lt x n && g x) || some_below n (λ v. f v && g v)
        → ((f n || nat_eq n x) && g n) || some_below n (λ v. (f v || nat_eq v x) && g v) ≡ (nat_lt x (suc n) && g x) || ((f n && g n) || some_below n (λ v. f v && g v))
    by true e rest =
        let same : x ≡ n = grind (arith, nat_tests) in
        let in' : nat_lt x (suc n) ≡ true = grind (arith, nat_tests) in
        let out : nat_lt x n ≡ false = grind (arith, nat_tests) in
        let g' : g x ≡ g n = ap g same in
        rw (e, rest, in', out, g') (it_is (f n) (g n) (some_below n (λ v. f v && g v)))
    by false e rest =
        let as' : nat_lt x (suc n) ≡ nat_lt x n = less_more n x e in
        rw (e, rest, as') (it_is_not (f n) (g n) (nat_lt x n && g x) (some_below n (λ v. f v && g v)))

-- the registers of these variables
abbrev pub held : ℕ → (ℕ → Home) → List ℕ → ℕ → Bool
held n home vs r = some_below n (λ v. member vs v && is_register r (home v))

pub none_held : (n : ℕ) (home : ℕ → Home) → none ≡ held n home []
none_held n home = fun_ext (λ r. sym (none_below n (λ v. is_register r (home v))))

one_held : (n : ℕ) (home : ℕ → Home) (vs : List ℕ) (i r : ℕ) → i < length vs
    → held n home (take (i + 1) vs) r ≡ (nat_lt (get_or vs i 0) n && is_register r (home (get_or vs i 0))) || held n home (take i vs) r
one_held n home vs i r lt =
    ap (some_below n) (fun_ext (λ v. ap (λ (b : Bool). b && is_register r (home v)) (member_more vs i v lt)))
    ∙ one_below n (get_or vs i 0) (member (take i vs)) (λ v. is_register r (home v))

pub held_more : (n : ℕ) (home : ℕ → Home) (vs : List ℕ) (i : ℕ) (now new : List ℕ) → i < length vs → member now ≡ held n home (take i vs)
    → member new ≡ with_all (λ r. nat_lt (get_or vs i 0) n && is_register r (home (get_or vs i 0))) (member now) → member new ≡ held n home (take (i + 1) vs)
held_more n home vs i now new lt so_far e =
    e ∙ ap (with_all (λ r. nat_lt (get_or vs i 0) n && is_register r (home (get_or vs i 0)))) so_far ∙ fun_ext (λ r. sym (one_held n home vs i r lt))

-- ---- arguments

-- what is made of an argument and those behind it, for one more
pub one_more : (code : List Argument → List Inst) (one : List Argument → Argument → List Inst) → ((x : Argument) (xs : List Argument) → code (x ∷ xs) ≡ code xs ++ one xs x) → (list : List Argument) (j : ℕ) (other : Argument) (start old new : List Inst) → 0 < j → j ≤ length list
    → old ≡ start ++ code (drop j list) → new ≡ old ++ one (take (length list - (j - 1 + 1)) (drop (j - 1 + 1) list)) (get_or list (j - 1) other) → new ≡ start ++ code (drop (j - 1) list)
one_more code one step list j other start old new some le so_far e =
    let x : Argument = get_or list (j - 1) other in
    let here = drop_before list j other some le in
    let back : j - 1 + 1 ≡ j = omega arith in
    let long = length-drop (j - 1 + 1) list in
    let rest : take (length list - (j - 1 + 1)) (drop (j - 1 + 1) list) ≡ drop j list = take_all (length list - (j - 1 + 1)) (drop (j - 1 + 1) list) (omega arith) ∙ ap (λ (n : ℕ). drop n list) back in
    e ∙ ap (λ (given : List Argument). old ++ one given x) rest ∙ ap (λ (c : List Inst). c ++ one (drop j list) x) so_far
    ∙ append_assoc start (code (drop j list)) (one (drop j list) x) ∙ ap (λ (c : List Inst). start ++ c) (sym (step x (drop j list)))
    ∙ ap (λ (l : List Argument). start ++ code l) (sym here)
