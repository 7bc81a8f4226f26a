-- The laws of parts: parts side by side, a node over them, and the tree that is made of theirs, each as what it shows.
use Rattle.std.proofs.Common.{◌≡◌, ℕ, length, Option, Some, None, refl, sym, ap, subst, ◌∙◌}
use Rattle.std.specs.Prelude.{Box, Result, Ok, Err, IfOk}
use Rattle.std.specs.declared.alloc.Global.{Global}
use Rattle.dae_base.specs.declared.Place.{Place}
use Rattle.dae_parse_grammar.specs.FirstPlaces.{Places, or_else, nowhere, both, over}
use Rattle.dae_parse_parts.specs.declared.reading.Read.{Read}
use Rattle.dae_parse_parts.specs.declared.depths.TreeDepths.{TreeDepths}
use Rattle.dae_parse_parts.specs.Shown.{Lists, IsKept, Holds, IsSeen, in_box, box_value, Shows, IsFrom, IsPair, IsMade}
use Rattle.dae_parse_parts.proofs.Holding.{holds_some, holds_none}

pub holds_same : {T : Type 0} (r : Read T) (f g : Places) → ((i : ℕ) → f i ≡ g i) → Holds r f → Holds r g
holds_same r f g e h = record {
  places = record { short = h.places.short; entries = λ i k. h.places.entries i k ∙ e i };
  kept = h.kept;
}

pub seen_at : {T A : Type 0} (view : T → A) (o : Option T) (a : A) (t : T) → IsSeen view o a → o ≡ Some t → view t ≡ a
seen_at view o a t s e = subst (λ (p : Option _). IsSeen view p a) e s

-- the views of two parts as one
abbrev pub pair_view : {T U A B : Type 0} → (T → A) → (U → B) → T × U → A × B
pair_view va vb p = (va p.0, vb p.1)

abbrev pub pair_firsts : {A B : Type 0} → (A → Places) → (B → Places) → A × B → Places
pair_firsts fa fb p = both (fa p.0) (fb p.1)

seen_pair : {T U A B : Type 0} (va : T → A) (vb : U → B) (left : Option T) (right : Option U) (o : Option (T × U)) (a : A) (b : B)
    → IsSeen va left a → IsSeen vb right b → IsPair left right o → IsSeen (pair_view va vb) o (a, b)
seen_pair va vb left right None a b h k p = tt
seen_pair va vb left right (Some x) a b h k p =
    let e : va x.0 ≡ a = seen_at va left a x.0 h p.0 in
    let d : vb x.1 ≡ b = seen_at vb right b x.1 k p.1 in
    ap (λ (y : _). (y, vb x.1)) e ∙ ap (λ (y : _). (a, y)) d

pub shows_pair : {T U A B : Type 0} (va : T → A) (vb : U → B) (fa : A → Places) (fb : B → Places) (left : Read T) (right : Read U) (pair : Read (T × U)) (a : A) (b : B)
    → Shows va fa left a → Shows vb fb right b → ((f g : Places) → Holds left f → Holds right g → Holds pair (both f g) × IsPair left.tree right.tree pair.tree)
    → Shows (pair_view va vb) (pair_firsts fa fb) pair (a, b)
shows_pair va vb fa fb left right pair a b h k made =
    let m = made (fa a) (fb b) h.holds k.holds in
    record { holds = m.0; seen = seen_pair va vb left.tree right.tree pair.tree a b h.seen k.seen m.1 }

seen_from : {T A : Type 0} (view : T → A) (part o : Option T) (a : A) → IsSeen view part a → IsFrom part o → IsSeen view o a
seen_from view part None a h p = tt
seen_from view part (Some t) a h p = seen_at view part a t h p

pub shows_over : {T A : Type 0} (view : T → A) (firsts : A → Places) (place : Place) (part whole : Read T) (a : A)
    → Shows view firsts part a → ((f : Places) → Holds part f → Holds whole (over place f) × IsFrom part.tree whole.tree)
    → Shows view (λ x. over place (firsts x)) whole a
shows_over view firsts place part whole a h made =
    let m = made (firsts a) h.holds in
    record { holds = m.0; seen = seen_from view part.tree whole.tree a h.seen m.1 }

-- a tree that is made of that of a part
pub shows_made : {T U A B : Type 0} (vu : U → B) (fu : B → Places) (view : T → A) (firsts : A → Places) (part : Read U) (tree : Option T) (b : B) (a : A) (u : U) (t : T)
    → Shows vu fu part b → fu b ≡ firsts a → part.tree ≡ Some u → tree ≡ Some t → (vu u ≡ b → view t ≡ a) → Shows view firsts (record { tree = tree; depths = part.depths }) a
shows_made vu fu view firsts part tree b a u t h same e d step = record {
  holds = holds_some part (firsts a) tree u t (subst (λ (f : Places). Holds part f) same h.holds) e d;
  seen = subst (λ (o : Option _). IsSeen view o a) (sym d) (step (seen_at vu part.tree b u h.seen e));
}

pub made_kept : {T N : Type 0} (make : T → N → Type 0) (part whole : Option T) (o : Option (Box N Global)) (t : T) (n : N) (b : Box N Global)
    → IsFrom part whole → whole ≡ Some t → o ≡ Some b → b.value ≡ n → make t n → IsMade make part (box_value o)
made_kept make part whole o t n b from e d same made =
    subst (λ (x : Option _). IsMade make part (box_value x)) (sym d) (t, subst (λ (x : Option _). IsFrom part x) e from, subst (make t) (sym same) made)

pub made_absent : {T N : Type 0} (make : T → N → Type 0) (part : Option T) (o : Option (Box N Global)) → o ≡ None → IsMade make part (box_value o)
made_absent make part o d = subst (λ (x : Option _). IsMade make part (box_value x)) (sym d) tt

seen_made : {T N A B : Type 0} (vt : T → B) (vn : N → A) (make : T → N → Type 0) (part : Option T) (o : Option (Box N Global)) (b : B) (a : A)
    → IsSeen vt part b → IsMade make part (box_value o) → ((t : T) (n : N) → make t n → vt t ≡ b → vn n ≡ a) → IsSeen (in_box vn) o a
seen_made vt vn make part None b a seen made step = tt
seen_made vt vn make part (Some x) b a seen made step = step made.0 x.value made.2 (seen_at vt part b made.0 seen made.1)

-- a node over a part
pub shows_node : {T N A B : Type 0} (vt : T → B) (ft : B → Places) (vn : N → A) (fn : A → Places) (make : T → N → Type 0) (place : Place) (part : Read T) (whole : Read (Box N Global)) (b : B) (a : A)
    → Shows vt ft part b → ((f : Places) → Holds part f → Holds whole (over place f) × IsMade make part.tree (box_value whole.tree))
    → over place (ft b) ≡ fn a → ((t : T) (n : N) → make t n → vt t ≡ b → vn n ≡ a) → Shows (in_box vn) fn whole a
shows_node vt ft vn fn make place part whole b a h node same step =
    let m = node (ft b) h.holds in
    record { holds = subst (λ (f : Places). Holds whole f) same m.0; seen = seen_made vt vn make part.tree whole.tree b a h.seen m.1 step }

pub node_shown : {T N A B E : Type 0} (vt : T → B) (ft : B → Places) (vn : N → A) (fn : A → Places) (make : T → N → Type 0) (place : Place) (part : Read T) (result : Result (Read (Box N Global)) E) (b : B) (a : A)
    → Shows vt ft part b → ((f : Places) → Holds part f → IfOk result (λ r. Holds r (over place f) × IsMade make part.tree (box_value r.tree)))
    → over place (ft b) ≡ fn a → ((t : T) (n : N) → make t n → vt t ≡ b → vn n ≡ a) → IfOk result (λ r. Shows (in_box vn) fn r a)
node_shown vt ft vn fn make place part (Err x) b a h node same step = tt
node_shown vt ft vn fn make place part (Ok whole) b a h node same step = shows_node vt ft vn fn make place part whole b a h node same step

-- no tree where the part has none
pub shows_absent : {T U A B : Type 0} (vu : U → B) (fu : B → Places) (view : T → A) (firsts : A → Places) (part : Read U) (tree : Option T) (b : B) (a : A)
    → Shows vu fu part b → fu b ≡ firsts a → part.tree ≡ None → tree ≡ None → Shows view firsts (record { tree = tree; depths = part.depths }) a
shows_absent vu fu view firsts part tree b a h same e d = record {
  holds = holds_none part (firsts a) tree (subst (λ (f : Places). Holds part f) same h.holds) e d;
  seen = subst (λ (o : Option _). IsSeen view o a) (sym d) tt;
}

-- a node without parts
pub shows_leaf : {T A : Type 0} (view : T → A) (firsts : A → Places) (place : Place) (part whole : Read T) (t : T) (a : A)
    → part.tree ≡ Some t → Holds part nowhere → ((f : Places) → Holds part f → Holds whole (over place f) × IsFrom part.tree whole.tree)
    → view t ≡ a → over place nowhere ≡ firsts a → Shows view firsts whole a
shows_leaf view firsts place part whole t a e h made d same =
    let m = made nowhere h in
    record {
      holds = subst (λ (f : Places). Holds whole f) same m.0;
      seen = seen_from view part.tree whole.tree a (subst (λ (o : Option _). IsSeen view o a) (sym e) d) m.1;
    }

pub leaf_shown : {T A E : Type 0} (view : T → A) (firsts : A → Places) (place : Place) (part : Read T) (result : Result (Read T) E) (t : T) (a : A)
    → part.tree ≡ Some t → Holds part nowhere → ((f : Places) → Holds part f → IfOk result (λ r. Holds r (over place f) × IsFrom part.tree r.tree))
    → view t ≡ a → over place nowhere ≡ firsts a → IfOk result (λ r. Shows view firsts r a)
leaf_shown view firsts place part (Err x) t a e h made d same = tt
leaf_shown view firsts place part (Ok whole) t a e h made d same = shows_leaf view firsts place part whole t a e h made d same

-- a tree without nodes
pub shows_flat : {T A : Type 0} (view : T → A) (firsts : A → Places) (read : Read T) (t : T) (a : A)
    → read.tree ≡ Some t → Holds read nowhere → view t ≡ a → nowhere ≡ firsts a → Shows view firsts read a
shows_flat view firsts read t a e h d same = record {
  holds = subst (λ (f : Places). Holds read f) same h;
  seen = subst (λ (o : Option _). IsSeen view o a) (sym e) d;
}

pub or_else_none : (x : Option Place) → x ≡ or_else x None
or_else_none None = refl
or_else_none (Some x) = refl

-- with no nodes behind
pub shows_alone : {T A : Type 0} (view : T → A) (firsts : A → Places) (read : Read T) (a : A) → Shows view firsts read a → Shows view (λ x. both (firsts x) nowhere) read a
shows_alone view firsts read a h = record { holds = holds_same read (firsts a) (both (firsts a) nowhere) (λ i. or_else_none (firsts a i)) h.holds; seen = h.seen }

-- ---- a tree out of its box

kept_unboxed : {T : Type 0} (o : Option (Box T Global)) (n : ℕ) → IsKept o n → IsKept (box_value o) n
kept_unboxed None n k = k
kept_unboxed (Some b) n k = k

seen_unboxed : {T A : Type 0} (view : T → A) (o : Option (Box T Global)) (a : A) → IsSeen (in_box view) o a → IsSeen view (box_value o) a
seen_unboxed view None a h = tt
seen_unboxed view (Some b) a h = h

pub shows_unboxed : {T A : Type 0} (view : T → A) (firsts : A → Places) (part : Read (Box T Global)) (read : Read T) (a : A)
    → Shows (in_box view) firsts part a → read.tree ≡ box_value part.tree → read.depths ≡ part.depths → Shows view firsts read a
shows_unboxed view firsts part read a h e d =
    let kept : IsKept read.tree (length part.depths.places.items) =
    subst (λ (o : Option _). IsKept o (length part.depths.places.items)) (sym e) (kept_unboxed part.tree _ h.holds.kept) in
    record {
      holds = record {
        places = subst (λ (x : TreeDepths). Lists x.places.items (firsts a)) (sym d) h.holds.places;
        kept = subst (λ (x : TreeDepths). IsKept read.tree (length x.places.items)) (sym d) kept;
      };
      seen = subst (λ (o : Option _). IsSeen view o a) (sym e) (seen_unboxed view part.tree a h.seen);
    }
