-- What is the same within so many levels is so within more, what is noted of couples is so, and comparing comes to an end.
use Rattle.std.proofs.Common.{◌≡◌, ℕ, zero, suc, ◌+◌, ◌*◌, ◌-◌, ◌≤◌, ◌<◌, Bool, true, false, ◌&&◌, ◌||◌, cond, List, [], ◌∷◌, ◌++◌, length, max, Option, Some, None, is_some, refl, sym, ap, subst, ◌∙◌, slice_get, arith, append_assoc}
use Rattle.std.proofs.Math.Nat.{mul-le-mul_right}
use Rattle.std.proofs.lemmas.Bool.{false≢true, and_parts, and_from}
use Rattle.std.proofs.lemmas.Bool.Decides.{nat_tests}
use Rattle.std.proofs.lemmas.List.Folds.{list_all-append}
use Rattle.std.specs.Bool.{beq}
use Rattle.std.specs.List.{AllByRecursion}
use Rattle.std.specs.Map.{lookup}
use Rattle.std.specs.Prelude.{nat_eq}
use Rattle.std.specs.Str.{bytes_eq}
use Rattle.dae_base.proofs.Laws.{beq_same, and_false}
use Rattle.dae_types_kinds.specs.declared.tables.Component.{Component}
use Rattle.dae_types_kinds.specs.declared.types.Shape.{Shape}
use Rattle.dae_types_kinds.specs.declared.types.Shape.TheVariants as shape
use Rattle.dae_types_kinds.specs.Types.{shape_of, layout_of, counts_agree}
use Rattle.dae_types_typed.specs.declared.files.FileParts.{FileParts}
use Rattle.dae_types_typed.specs.Sound.{tables_of, bytes_of, members_of}
use Rattle.dae_unit.specs.declared.couples.Couple.{Couple}
use Rattle.dae_unit.specs.declared.couples.Goal.{Goal}
use Rattle.dae_unit.specs.declared.couples.CoupleTask.{CoupleTask}
use Rattle.dae_unit.specs.declared.couples.CoupleTask.TheVariants.{Compare, Note}
use Rattle.dae_unit.specs.Across.{same_tag, tag_of, same_members, same_bodies, same_structure, shape_across, same_within_files}
use Rattle.dae_unit.specs.declared.couples.CoupleVerdict.{CoupleVerdict}
use Rattle.dae_unit.specs.declared.couples.CoupleVerdict.TheVariants.{Same, Other}
use Rattle.dae_unit.specs.Couples.{shape_in, agree_within, all_agree, AreOther, Needs, IsSo, same_couple, AreKnown, levels_of, depth_of, goals_at, holds, all_hold, cost, weight}

-- ---- tests

or_grows : (b x y : Bool) → (x ≡ true → y ≡ true) → (b || x) ≡ true → (b || y) ≡ true
or_grows true x y h e = refl
or_grows false x y h e = h e

and_unit : (a : Bool) → (a && true) ≡ a
and_unit true = refl
and_unit false = refl

pub plain_last : (a p s : Bool) → p ≡ s → (p && a) ≡ (a && s)
plain_last true p s h = and_unit p ∙ h
plain_last false p s h = and_false p

pub known_moved : (f g : FileParts) (old new : List (Couple × CoupleVerdict)) → old ≡ new → AreKnown f g old → AreKnown f g new
known_moved f g old new h all = subst (λ z. AreKnown f g z) h all

-- ---- more levels

members_grow : (p q : ℕ → ℕ → Bool) → ((m n : ℕ) → p m n ≡ true → q m n ≡ true) → (f g : FileParts) (cs ds : List Component) → same_members p f g cs ds ≡ true → same_members q f g cs ds ≡ true
members_grow p q h f g [] [] e = refl
members_grow p q h f g (c ∷ cs) (d ∷ ds) e =
    let a = and_parts (bytes_eq (bytes_of f.names c.name) (bytes_of g.names d.name)) (p c.type_id d.type_id && same_members p f g cs ds) e in
    let b = and_parts (p c.type_id d.type_id) (same_members p f g cs ds) a.1 in
    and_from (bytes_eq (bytes_of f.names c.name) (bytes_of g.names d.name)) (q c.type_id d.type_id && same_members q f g cs ds) a.0
    (and_from (q c.type_id d.type_id) (same_members q f g cs ds) (h c.type_id d.type_id b.0) (members_grow p q h f g cs ds b.1))
members_grow p q h f g [] (d ∷ ds) e = absurd (false≢true e)
members_grow p q h f g (c ∷ cs) [] e = absurd (false≢true e)

bodies_grow : (p q : ℕ → ℕ → Bool) → ((m n : ℕ) → p m n ≡ true → q m n ≡ true) → (f g : FileParts) (m n : ℕ) → same_bodies p f g m n ≡ true → same_bodies q f g m n ≡ true
bodies_grow p q h f g m n e =
    let complete = is_some (layout_of (tables_of f) m) && is_some (layout_of (tables_of g) n) in
    let a = and_parts complete (same_members p f g (members_of (tables_of f) m) (members_of (tables_of g) n)) e in
    and_from complete (same_members q f g (members_of (tables_of f) m) (members_of (tables_of g) n)) a.0 (members_grow p q h f g (members_of (tables_of f) m) (members_of (tables_of g) n) a.1)

structures_grow : (p q : ℕ → ℕ → Bool) → ((m n : ℕ) → p m n ≡ true → q m n ≡ true) → (f g : FileParts) (behind : Bool) (m n : ℕ) → same_structure p f g behind m n ≡ true → same_structure q f g behind m n ≡ true
structures_grow p q h f g behind m n e =
    let tags = same_tag (tag_of f (slice_get f.structures m)) (tag_of g (slice_get g.structures n)) in
    let a = and_parts tags (behind || same_bodies p f g m n) e in
    and_from tags (behind || same_bodies q f g m n) a.0 (or_grows behind (same_bodies p f g m n) (same_bodies q f g m n) (bodies_grow p q h f g m n) a.1)

two_grow : (x y v w : Bool) → (x ≡ true → v ≡ true) → (y ≡ true → w ≡ true) → (x && y) ≡ true → (v && w) ≡ true
two_grow x y v w h k e = let a = and_parts x y e in and_from v w (h a.0) (k a.1)

shapes_grow : (p q : Bool → ℕ → ℕ → Bool) → ((b : Bool) (m n : ℕ) → p b m n ≡ true → q b m n ≡ true) → (f g : FileParts) (behind : Bool) (x y : Shape) → shape_across p f g behind x y ≡ true → shape_across q f g behind x y ≡ true
shapes_grow p q h f g behind (shape.Pointer m) (shape.Pointer n) e = h true m n e
shapes_grow p q h f g behind (shape.Array m c) (shape.Array n d) e = two_grow (counts_agree c d) (p behind m n) (counts_agree c d) (q behind m n) (λ a. a) (h behind m n) e
shapes_grow p q h f g behind (shape.Struct m) (shape.Struct n) e = structures_grow (p false) (q false) (h false) f g behind m n e
shapes_grow p q h f g behind (shape.Function r ps) (shape.Function t qs) e = two_grow (p behind r t) (p behind ps qs) (q behind r t) (q behind ps qs) (h behind r t) (h behind ps qs) e
shapes_grow p q h f g behind (shape.Parameter ps m) (shape.Parameter qs n) e = two_grow (p behind ps qs) (p behind m n) (q behind ps qs) (q behind m n) (h behind ps qs) (h behind m n) e
shapes_grow p q h f g behind x y e = e

within_grows : (k j : ℕ) (f g : FileParts) → k ≤ j → (behind : Bool) (m n : ℕ) → same_within_files k f g behind m n ≡ true → same_within_files j f g behind m n ≡ true
within_grows zero j f g h behind m n e = absurd (false≢true e)
within_grows (suc k) zero f g h behind m n e = absurd (omega arith)
within_grows (suc k) (suc j) f g h behind m n e =
    shapes_grow (same_within_files k f g) (same_within_files j f g) (within_grows k j f g (omega arith)) f g behind (shape_of (tables_of f) m) (shape_of (tables_of g) n) e

pub agrees_further : (k j : ℕ) (f g : FileParts) (c : Couple) → k ≤ j → agree_within k f g c ≡ true → agree_within j f g c ≡ true
agrees_further zero j f g c h e = absurd (false≢true e)
agrees_further (suc k) zero f g c h e = absurd (omega arith)
agrees_further (suc k) (suc j) f g c h e =
    shapes_grow (same_within_files k f g) (same_within_files j f g) (within_grows k j f g (omega arith)) f g c.behind (shape_in f c.structures c.left) (shape_in g c.structures c.right) e

-- ---- what is known

couples_same : (c d : Couple) → same_couple c d ≡ true → c ≡ d
couples_same c d h =
    let a = and_parts (beq c.structures d.structures) (beq c.behind d.behind && (nat_eq c.left d.left && nat_eq c.right d.right)) h in
    let b = and_parts (beq c.behind d.behind) (nat_eq c.left d.left && nat_eq c.right d.right) a.1 in
    let e = and_parts (nat_eq c.left d.left) (nat_eq c.right d.right) b.1 in
    let structures : c.structures ≡ d.structures = beq_same c.structures d.structures a.0 in
    let behind : c.behind ≡ d.behind = beq_same c.behind d.behind b.0 in
    let left : c.left ≡ d.left = grind (arith, nat_tests, e.0) in
    let right : c.right ≡ d.right = grind (arith, nat_tests, e.1) in
    λ i. record { structures = structures i; behind = behind i; left = left i; right = right i }

known_further : (known : List (Couple × CoupleVerdict)) (k j : ℕ) (cs : List Couple) → depth_of known k cs ≡ Some j → k ≤ j
known_further known k j [] h = let e : k ≡ j = cc in omega arith
known_further known k j (c ∷ cs) h = by (levels_of (lookup (same_couple c) known)) (λ i e. known_further known (max k i) j cs e) h
  where
    by : (o : Option ℕ) → ((i : ℕ) → depth_of known (max k i) cs ≡ Some j → max k i ≤ j) → (elim o [ None ↦ None | Some i ↦ depth_of known (max k i) cs ]) ≡ Some j → k ≤ j
    by None rest e = absurd cc
    by (Some i) rest e = let most = rest i e in omega arith

levels_known : (o : Option CoupleVerdict) (k : ℕ) → levels_of o ≡ Some k → o ≡ Some (Same k)
levels_known None k h = absurd cc
levels_known (Some Other) k h = absurd cc
levels_known (Some (Same j)) k h = let e : j ≡ k = cc in ap (λ i. Some (Same i)) e

pub known_agree : (f g : FileParts) (known : List (Couple × CoupleVerdict)) → AreKnown f g known → (k j : ℕ) (cs : List Couple) → depth_of known k cs ≡ Some j → all_agree j f g cs ≡ true
known_agree f g known all k j [] h = refl
known_agree f g known all k j (c ∷ cs) h = by (levels_of (lookup (same_couple c) known)) refl (λ i e. known_agree f g known all (max k i) j cs e) h
  where
    by : (o : Option ℕ) → levels_of (lookup (same_couple c) known) ≡ o → ((i : ℕ) → depth_of known (max k i) cs ≡ Some j → all_agree j f g cs ≡ true) → (elim o [ None ↦ None | Some i ↦ depth_of known (max k i) cs ]) ≡ Some j → (agree_within j f g c && all_agree j f g cs) ≡ true
    by None is rest e = absurd cc
    by (Some i) is rest e =
        let least = known_further known (max k i) j cs e in
        let found = levels_known (lookup (same_couple c) known) i is in
        and_from (agree_within j f g c) (all_agree j f g cs) (agrees_further i j f g c (omega arith) (all c (Same i) found)) (rest i e)

pub noted : (f g : FileParts) (old new : List (Couple × CoupleVerdict)) (c : Couple) (v : CoupleVerdict) → IsSo f g c v
    → ((q : Couple) → lookup (same_couple q) new ≡ cond (same_couple c q) (Some v) (lookup (same_couple q) old)) → AreKnown f g old → AreKnown f g new
noted f g old new c v is_so put all q w found = by (same_couple c q) refl (sym (put q) ∙ found)
  where
    by : (b : Bool) → same_couple c q ≡ b → cond b (Some v) (lookup (same_couple q) old) ≡ Some w → IsSo f g q w
    by true is e =
        let one = couples_same c q is in
        let told : v ≡ w = cc in
        subst (λ z. IsSo f g z w) one (subst (λ z. IsSo f g c z) told is_so)
    by false is e = all q w e

-- ---- tasks

goals_hold : (f g : FileParts) (k : ℕ) (cs : List Couple) → all_hold f g (goals_at k cs) ≡ all_agree k f g cs
goals_hold f g k [] = refl
goals_hold f g k (c ∷ cs) = ap (λ z. agree_within k f g c && z) (goals_hold f g k cs)

-- the parts are to be compared, and the couple noted
pub parts_hold : (f g : FileParts) (k : ℕ) (c : Couple) (old : List CoupleTask) (cs : List Couple) (whole : Bool) → all_agree k f g cs ≡ whole → all_hold f g ((old ++ Note c ∷ []) ++ goals_at k cs) ≡ (all_hold f g old && whole)
parts_hold f g k c old cs whole h =
    list_all-append (holds f g) (old ++ Note c ∷ []) (goals_at k cs)
    ∙ ap (λ z. z && all_hold f g (goals_at k cs)) (list_all-append (holds f g) old (Note c ∷ []) ∙ and_unit (all_hold f g old))
    ∙ ap (λ z. all_hold f g old && z) (goals_hold f g k cs ∙ h)

weight_behind : (n : ℕ) (xs ys : List CoupleTask) → weight n (xs ++ ys) ≡ weight n xs + weight n ys
weight_behind n [] ys = omega arith
weight_behind n (Compare x ∷ xs) ys = let rest = weight_behind n xs ys in omega arith
weight_behind n (Note c ∷ xs) ys = let rest = weight_behind n xs ys in omega arith

goals_weight : (n k : ℕ) (cs : List Couple) → weight n (goals_at k cs) ≡ length cs * cost n k
goals_weight n k [] = omega arith
goals_weight n k (c ∷ cs) = let rest = goals_weight n k cs in omega arith

pub parts_weigh : (n k : ℕ) (c : Couple) (old : List CoupleTask) (cs : List Couple) → length cs ≤ n → weight n ((old ++ Note c ∷ []) ++ goals_at k cs) < weight n old + cost n (suc k)
parts_weigh n k c old cs few =
    let a = weight_behind n (old ++ Note c ∷ []) (goals_at k cs) in
    let b = weight_behind n old (Note c ∷ []) in
    let d = goals_weight n k cs in
    let most = mul-le-mul_right (cost n k) few in
    omega arith

-- ---- a couple is compared

-- a couple that differs isn't the same within any levels
pub never_holds : (f g : FileParts) (c : Couple) (d : ℕ) → AreOther f g c → (whole : Bool) → false ≡ (whole && agree_within d f g c)
never_holds f g c d other whole = sym (ap (λ z. whole && z) (other d) ∙ and_false whole)

-- it is known to be the same
pub known_holds : (f g : FileParts) (known : List (Couple × CoupleVerdict)) → AreKnown f g known → (c : Couple) (k d : ℕ) → lookup (same_couple c) known ≡ Some (Same k) → k ≤ d → (whole : Bool) → whole ≡ (whole && agree_within d f g c)
known_holds f g known all c k d at le whole = sym (ap (λ z. whole && z) (agrees_further k d f g c le (all c (Same k) at)) ∙ and_unit whole)

module _ (f g : FileParts) (c : Couple) (start cs : List Couple) (none : start ≡ []) (b : Bool) (same : (k : ℕ) → (b && all_agree k f g cs) ≡ (all_agree k f g start && agree_within (suc k) f g c)) where
  parts_tell : (d : ℕ) → (d ≡ 0 → ⊥) → (b && all_agree (d - 1) f g cs) ≡ agree_within d f g c
  parts_tell zero h = absurd (h refl)
  parts_tell (suc k) h =
      let e : suc k - 1 ≡ k = omega arith in
      rw e (same k ∙ ap (λ z. all_agree k f g z && agree_within (suc k) f g c) none)

  next_level : (k : ℕ) → agree_within (suc k) f g c ≡ (b && all_agree k f g cs)
  next_level k = sym (ap (λ z. all_agree k f g z && agree_within (suc k) f g c) none) ∙ sym (same k)

  -- it differs whatever its parts are
  pub parts_differ : b ≡ false → AreOther f g c
  parts_differ fails zero = refl
  parts_differ fails (suc k) = next_level k ∙ ap (λ z. z && all_agree k f g cs) fails

  -- it differs where a part does
  pub parts_needed : (before parts : List Couple) → cs ≡ before ++ parts → AllByRecursion (λ p. Needs f g c p) parts
  parts_needed before [] is = tt
  parts_needed before (p ∷ parts) is = (λ other k. by other k, parts_needed (before ++ p ∷ []) parts (is ∙ sym (append_assoc before (p ∷ []) parts)))
    where
      by : AreOther f g p → (k : ℕ) → agree_within k f g c ≡ false
      by other zero = refl
      by other (suc k) =
          let among : all_agree k f g cs ≡ false =
          ap (all_agree k f g) is
          ∙ list_all-append (agree_within k f g) before (p ∷ parts)
          ∙ ap (λ z. all_agree k f g before && (z && all_agree k f g parts)) (other k)
          ∙ and_false (all_agree k f g before)
          in
          next_level k ∙ ap (λ z. b && z) among ∙ and_false b

  -- it is the same if its parts are
  pub parts_decide : b ≡ true → (d : ℕ) → (d ≡ 0 → ⊥) → (old new : List CoupleTask) → new ≡ (old ++ Note c ∷ []) ++ goals_at (d - 1) cs → all_hold f g new ≡ (all_hold f g old && agree_within d f g c)
  parts_decide agree d h old new is =
      ap (all_hold f g) is
      ∙ parts_hold f g (d - 1) c old cs (agree_within d f g c) (sym (ap (λ z. z && all_agree (d - 1) f g cs) agree) ∙ parts_tell d h)

  pub parts_noted : b ≡ true → (k : ℕ) → all_agree k f g cs ≡ true → agree_within (k + 1) f g c ≡ true
  parts_noted agree k h =
      let e : k + 1 ≡ suc k = omega arith in
      rw e (sym (ap (λ z. all_agree k f g z && agree_within (suc k) f g c) none) ∙ sym (same k) ∙ ap (λ z. z && all_agree k f g cs) agree ∙ h)

pub steps_less : (n : ℕ) (c : Couple) (cs : List Couple) → length cs ≤ n → (d : ℕ) → (d ≡ 0 → ⊥) → (old new : List CoupleTask) → new ≡ (old ++ Note c ∷ []) ++ goals_at (d - 1) cs → weight n new < weight n old + cost n d
steps_less n c cs few zero h old new is = absurd (h refl)
steps_less n c cs few (suc k) h old new is =
    let e : suc k - 1 ≡ k = omega arith in
    subst (λ z. weight n z < weight n old + cost n (suc k)) (sym is) (rw e (parts_weigh n k c old cs few))

-- ---- the last task is done

last_weighs : (n : ℕ) (xs ys : List CoupleTask) (x : CoupleTask) → ys ≡ xs ++ x ∷ [] → weight n ys ≡ weight n xs + weight n (x ∷ [])
last_weighs n xs ys x h = ap (weight n) h ∙ weight_behind n xs (x ∷ [])

pub comparing_lessens : (n : ℕ) (ys xs new : List CoupleTask) (x : CoupleTask) (goal : Goal) → ys ≡ xs ++ x ∷ [] → x ≡ Compare goal → weight n new < weight n xs + cost n goal.depth → weight n new < weight n ys
comparing_lessens n ys xs new x goal h is less =
    let all = last_weighs n xs ys x h in
    let one = ap (λ z. weight n (z ∷ [])) is in
    omega arith

pub noting_holds : (f g : FileParts) (ys xs : List CoupleTask) (x : CoupleTask) (c : Couple) (whole : Bool) → ys ≡ xs ++ x ∷ [] → x ≡ Note c → all_hold f g ys ≡ whole → all_hold f g xs ≡ whole
noting_holds f g ys xs x c whole h is e =
    sym (ap (all_hold f g) (h ∙ ap (λ z. xs ++ z ∷ []) is) ∙ list_all-append (holds f g) xs (Note c ∷ []) ∙ and_unit (all_hold f g xs)) ∙ e

pub noting_lessens : (n : ℕ) (ys xs : List CoupleTask) (x : CoupleTask) (c : Couple) → ys ≡ xs ++ x ∷ [] → x ≡ Note c → weight n xs < weight n ys
noting_lessens n ys xs x c h is =
    let all = last_weighs n xs ys x h in
    let one = ap (λ z. weight n (z ∷ [])) is in
    omega arith
