-- What a side does of an If or a Loop: one that both do, one in a region of its own, or none of it.
use Rattle.std.proofs.Common.{◌≡◌, ℕ, Bool, true, false, List, [], Option, Some, None, refl, ap, sym, ◌∙◌, subst}
use Rattle.dae_base.specs.declared.Place.{Place}
use Rattle.dae_ir.specs.Code.{Done, If, Loop}
use Rattle.dae_ir.specs.Form.{Form}
use Rattle.dae_ir.specs.Classes.{Classes}
use Rattle.dae_ir.specs.Rounds.{Rounds, decision, rounds, closed, region, one_sided}
use Rattle.dae_ir.specs.Streams.{Actions, mark, when, onto}
use Rattle.dae_ir.specs.declared.form.Test.{Test}
use Rattle.dae_ir.specs.declared.stream.Action.{Action}
use Rattle.dae_ir.specs.declared.stream.Branch.{Branch}
use Rattle.dae_ir.specs.declared.stream.Mark.{Mark}
use Rattle.dae_ir.specs.declared.stream.Part.{Part}
use Rattle.dae_ir.specs.declared.stream.Step.{Step}
use Rattle.dae_split.specs.Making.{Adds, projected, Makes, stands_in, is_outside, tells_in, region_message, branch_at}

-- with a step, where the flag says so
abbrev with_step : Bool → (Actions → Actions) → Actions → Actions
with_step true f k = f k
with_step false f k = k

-- inside of a region there are no others
pub none_inside : (outside : Bool) (c : Classes) (code : Form) → outside ≡ false → region outside c code ≡ None
none_inside true c code e = cc
none_inside false c code e = refl

module _ (of : ℕ → Classes) (c : Classes) (cap n : ℕ) (m : Place) (k : Rounds) where
  pub nested_if : (outside by_a : Bool) (t : Test) (p q : Form) (r : Option Bool) → (outside ≡ false → r ≡ None)
      → projected outside by_a of c cap n (one_sided r m (If m t p q Done) k (If m (decision c t) (rounds c cap outside p []) (rounds c cap outside q []) k))
      ≡ with_step (stands_in by_a r)
      (If (mark m n) (branch_at (is_outside outside r) by_a (decision c t))
      (projected (is_outside outside r) by_a of c cap 0 (rounds c cap (is_outside outside r) p []))
      (projected (is_outside outside r) by_a of c cap 0 (rounds c cap (is_outside outside r) q [])))
      (when (tells_in r (If m t p q Done)) (mark m n) (region_message by_a) (projected outside by_a of c cap n k))
  nested_if true true t p q None h = refl
  nested_if true false t p q None h = refl
  nested_if false true t p q None h = refl
  nested_if false false t p q None h = refl
  nested_if true true t p q (Some true) h = refl
  nested_if true false t p q (Some true) h = refl
  nested_if true true t p q (Some false) h = refl
  nested_if true false t p q (Some false) h = refl
  nested_if false by_a t p q (Some d) h = let e = h refl in cc

  pub nested_loop : (outside by_a : Bool) (p q : Form) (r : Option Bool) → (outside ≡ false → r ≡ None)
      → projected outside by_a of c cap n (one_sided r m (Loop m p q Done) k (Loop m (rounds c cap outside p []) (rounds c cap outside q []) k))
      ≡ with_step (stands_in by_a r)
      (Loop (mark m n)
      (projected (is_outside outside r) by_a of c cap 0 (rounds c cap (is_outside outside r) p []))
      (projected (is_outside outside r) by_a of c cap 0 (rounds c cap (is_outside outside r) q [])))
      (when (tells_in r (Loop m p q Done)) (mark m n) (region_message by_a) (projected outside by_a of c cap n k))
  nested_loop true true p q None h = refl
  nested_loop true false p q None h = refl
  nested_loop false true p q None h = refl
  nested_loop false false p q None h = refl
  nested_loop true true p q (Some true) h = refl
  nested_loop true false p q (Some true) h = refl
  nested_loop true true p q (Some false) h = refl
  nested_loop true false p q (Some false) h = refl
  nested_loop false by_a p q (Some d) h = let e = h refl in cc

module _ (by_a outside : Bool) (of : ℕ → Classes) (c : Classes) (cap : ℕ) (m : Place) (stands out tells : Bool)
    (os ms ps ns : List Step) (on mn : ℕ) (og ng : List Part) (b : Mark) (b_is : b ≡ mark m mn) (x : Action) (x_is : x ≡ region_message by_a) (empty : ng ≡ [])
    (close : (o : Bool) (k : Rounds) → Makes (projected o by_a of c cap) os on ms mn k (closed og k)) (stood : stands ≡ true)
    (put : Adds (when tells b x) ps ns) where
  pub if_made : (t : Test) (p q : Form) (branch : Branch) (first second : Actions)
      → stands ≡ stands_in by_a (region outside c (If m t p q Done)) → out ≡ is_outside outside (region outside c (If m t p q Done)) → tells ≡ tells_in (region outside c (If m t p q Done)) (If m t p q Done)
      → branch ≡ branch_at out by_a (decision c t) → first ≡ projected out by_a of c cap 0 (rounds c cap out p []) → second ≡ projected out by_a of c cap 0 (rounds c cap out q [])
      → Adds (If b branch first second) ms ps
      → (k : Form) → Makes (projected outside by_a of c cap) os on ns mn (rounds c cap outside k ng) (rounds c cap outside (If m t p q k) og)
  if_made t p q branch first second stands_is out_is tells_is branch_is first_is second_is put_if k =
      let rest = rounds c cap outside k [] in
      let r = region outside c (If m t p q Done) in
      let whole = one_sided r m (If m t p q Done) rest (If m (decision c t) (rounds c cap outside p []) (rounds c cap outside q []) rest) in
      let shared : projected outside by_a of c cap mn whole ≡ If b branch first second (when tells b x (projected outside by_a of c cap mn rest)) =
      nested_if of c cap mn m rest outside by_a t p q r (none_inside outside c (If m t p q Done)) ∙ rw (b_is, branch_is, first_is, second_is, x_is, tells_is, out_is, sym stands_is, stood) refl in
      rw (empty) (put (projected outside by_a of c cap mn rest) ∙ put_if _ ∙ ap (onto ms) (sym shared) ∙ close outside whole)

  pub loop_made : (p q : Form) (first second : Actions)
      → stands ≡ stands_in by_a (region outside c (Loop m p q Done)) → out ≡ is_outside outside (region outside c (Loop m p q Done)) → tells ≡ tells_in (region outside c (Loop m p q Done)) (Loop m p q Done)
      → first ≡ projected out by_a of c cap 0 (rounds c cap out p []) → second ≡ projected out by_a of c cap 0 (rounds c cap out q [])
      → Adds (Loop b first second) ms ps
      → (k : Form) → Makes (projected outside by_a of c cap) os on ns mn (rounds c cap outside k ng) (rounds c cap outside (Loop m p q k) og)
  loop_made p q first second stands_is out_is tells_is first_is second_is put_loop k =
      let rest = rounds c cap outside k [] in
      let r = region outside c (Loop m p q Done) in
      let whole = one_sided r m (Loop m p q Done) rest (Loop m (rounds c cap outside p []) (rounds c cap outside q []) rest) in
      let shared : projected outside by_a of c cap mn whole ≡ Loop b first second (when tells b x (projected outside by_a of c cap mn rest)) =
      nested_loop of c cap mn m rest outside by_a p q r (none_inside outside c (Loop m p q Done)) ∙ rw (b_is, first_is, second_is, x_is, tells_is, out_is, sym stands_is, stood) refl in
      rw (empty) (put (projected outside by_a of c cap mn rest) ∙ put_loop _ ∙ ap (onto ms) (sym shared) ∙ close outside whole)

module _ (by_a outside : Bool) (of : ℕ → Classes) (c : Classes) (cap : ℕ) (m : Place) (stands tells : Bool)
    (os ms ns : List Step) (on mn : ℕ) (og ng : List Part) (b : Mark) (b_is : b ≡ mark m mn) (x : Action) (x_is : x ≡ region_message by_a) (empty : ng ≡ [])
    (close : (o : Bool) (k : Rounds) → Makes (projected o by_a of c cap) os on ms mn k (closed og k)) (left : stands ≡ false)
    (put : Adds (when tells b x) ms ns) where
  pub if_left : (t : Test) (p q : Form)
      → stands ≡ stands_in by_a (region outside c (If m t p q Done)) → tells ≡ tells_in (region outside c (If m t p q Done)) (If m t p q Done)
      → (k : Form) → Makes (projected outside by_a of c cap) os on ns mn (rounds c cap outside k ng) (rounds c cap outside (If m t p q k) og)
  if_left t p q stands_is tells_is k =
      let rest = rounds c cap outside k [] in
      let r = region outside c (If m t p q Done) in
      let whole = one_sided r m (If m t p q Done) rest (If m (decision c t) (rounds c cap outside p []) (rounds c cap outside q []) rest) in
      let shared : projected outside by_a of c cap mn whole ≡ when tells b x (projected outside by_a of c cap mn rest) =
      nested_if of c cap mn m rest outside by_a t p q r (none_inside outside c (If m t p q Done)) ∙ rw (b_is, x_is, tells_is, sym stands_is, left) refl in
      rw (empty) (put (projected outside by_a of c cap mn rest) ∙ ap (onto ms) (sym shared) ∙ close outside whole)

pub at_code : (view : ℕ → Rounds → Actions) (c : Classes) (cap : ℕ) (outside : Bool) (os ns : List Step) (on nn : ℕ) (og : List Part) (y : Rounds) (p q : Form) → p ≡ q
    → Makes view os on ns nn y (rounds c cap outside q og) → Makes view os on ns nn y (rounds c cap outside p og)
at_code view c cap outside os ns on nn og y p q e h = subst (λ (code : Form). Makes view os on ns nn y (rounds c cap outside code og)) (sym e) h
