-- Entries and the map of the latest, as an entry is added and taken.
use Rattle.std.proofs.Common.{◌≡◌, ℕ, ◌+◌, ◌-◌, ◌<◌, ◌≤◌, Bool, true, false, cond, nat_eq, List, [], ◌∷◌, ◌++◌, reverse, length, take, Option, Some, is_some, IsSome, refl, ap, sym, subst, ◌∙◌, arith, eqb-true, eq-eqb}
use Rattle.std.proofs.lemmas.List.{length-map, length-reverse, reverse-append, take_all, take-map, take-take, length-take}
use Rattle.std.specs.Map.{lookup}
use Rattle.indexmap.specs.IndexMap.{IndexMap, IsEmpty, IsUnchanged, Updates, get}
use Rattle.dae_names.specs.declared.index.IndexedName.{IndexedName}
use Rattle.dae_names.specs.Entries.{AreLinked, IsIndexed, name_of, names_of}
use Rattle.dae_names.specs.Latest.{latest_of}
use Rattle.dae_names.proofs.Rows.{map_reverse}

-- where the latest of a name stands behind an entry, the latest first
abbrev behind : List IndexedName → ℕ → Bool → Option ℕ
behind es name b = cond b (Some (length (names_of es))) (latest_of (names_of es) name)

module _ (es : List IndexedName) (e : IndexedName) (all : List IndexedName) (is : all ≡ es ++ e ∷ []) where
  turned : reverse all ≡ e ∷ reverse es
  turned = ap reverse is ∙ reverse-append es (e ∷ [])

  places_turned : (name : ℕ) → latest_of (names_of (reverse all)) name ≡ behind (reverse es) name (nat_eq e.name name)
  places_turned name = ap (λ (l : List IndexedName). latest_of (names_of l) name) turned

  pub indexed_push : {S : Type 0} (m n : IndexMap ℕ ℕ S) (at : ℕ) → at ≡ length es → e.hidden ≡ get nat_eq m e.name → Updates nat_eq m n e.name (Some at) → IsIndexed es m → IsIndexed all n
  indexed_push m n at here hidden updates before = record {
    linked = subst AreLinked (sym turned) (hidden ∙ before.places e.name, before.linked);
    places = λ name. updates.0 name ∙ by name (nat_eq e.name name) ∙ sym (places_turned name);
  }
    where
      by : (name : ℕ) (b : Bool) → cond b (Some at) (get nat_eq m name) ≡ behind (reverse es) name b
      by name true = ap Some (here ∙ sym (length-reverse es) ∙ sym (length-map (reverse es) name_of))
      by name false = before.places name

  pub indexed_pop : {S : Type 0} (m n : IndexMap ℕ ℕ S) → Updates nat_eq m n e.name e.hidden → IsIndexed all m → IsIndexed es n
  indexed_pop m n updates before = record {
    linked = linked.1;
    places = λ name. updates.0 name ∙ by name (nat_eq e.name name) refl;
  }
    where
      linked : AreLinked (e ∷ reverse es)
      linked = subst AreLinked turned before.linked

      by : (name : ℕ) (b : Bool) → nat_eq e.name name ≡ b → cond b e.hidden (get nat_eq m name) ≡ latest_of (names_of (reverse es)) name
      by name true p = linked.0 ∙ ap (latest_of (names_of (reverse es))) (eqb-true e.name name p)
      by name false p = before.places name ∙ places_turned name ∙ ap (behind (reverse es) name) p

  pub is_there : {S : Type 0} (m : IndexMap ℕ ℕ S) → IsIndexed all m → IsSome (get nat_eq m e.name)
  is_there m before =
      ap is_some (before.places e.name ∙ places_turned e.name ∙ ap (behind (reverse es) e.name) (eq-eqb e.name e.name refl))

pub indexed_empty : {S : Type 0} (es : List IndexedName) (m : IndexMap ℕ ℕ S) → es ≡ [] → IsEmpty m → IsIndexed es m
indexed_empty es m none empty = record {
  linked = subst (λ (l : List IndexedName). AreLinked (reverse l)) (sym none) tt;
  places = λ name. ap (lookup (nat_eq name)) empty ∙ sym (ap (λ (l : List IndexedName). latest_of (names_of (reverse l)) name) none);
}

pub indexed_same : {S : Type 0} (es new : List IndexedName) (m n : IndexMap ℕ ℕ S) → new ≡ es → IsUnchanged m n → IsIndexed es m → IsIndexed new n
indexed_same es new m n same unchanged before = record {
  linked = subst (λ (l : List IndexedName). AreLinked (reverse l)) (sym same) before.linked;
  places = λ name. ap (lookup (nat_eq name)) unchanged ∙ before.places name ∙ sym (ap (λ (l : List IndexedName). latest_of (names_of (reverse l)) name) same);
}

pub latest_told : {S : Type 0} (es : List IndexedName) (m : IndexMap ℕ ℕ S) (name : ℕ) → IsIndexed es m → get nat_eq m name ≡ latest_of (reverse (names_of es)) name
latest_told es m name i = i.places name ∙ ap (λ (ns : List ℕ). latest_of ns name) (map_reverse name_of es)

pub names_cut : (all rest : List IndexedName) (len : ℕ) → len ≡ length all → rest ≡ take (len - 1) all → names_of rest ≡ take (length (names_of all) - 1) (names_of all)
names_cut all rest len long cut =
    ap names_of cut ∙ sym (take-map name_of (len - 1) all) ∙ ap (λ (k : ℕ). take (k - 1) (names_of all)) (long ∙ sym (length-map all name_of))

-- ---- one name less, on the way to a front of so many

pub one_less : (ns rest : List ℕ) (left : ℕ) → 0 < left → length ns ≡ left → rest ≡ take (length ns - 1) ns → length rest ≡ left - 1
one_less ns rest left some long cut = omega (arith, ap length cut, length-take (length ns - 1) ns)

pub same_front : (ns rest : List ℕ) (count left : ℕ) → count < left → length ns ≡ left → rest ≡ take (length ns - 1) ns → take count rest ≡ take count ns
same_front ns rest count left more long cut = ap (take count) cut ∙ take-take count (length ns - 1) ns (omega arith)

pub whole_front : (ns all : List ℕ) (count left : ℕ) → left ≤ count → length ns ≡ left → take count ns ≡ take count all → ns ≡ take count all
whole_front ns all count left few long same = sym (take_all count ns (omega arith)) ∙ same
