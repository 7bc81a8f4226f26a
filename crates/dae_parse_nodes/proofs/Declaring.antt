-- What is kept beside the trees of declarators, parameters and definitions.
use Rattle.std.proofs.Common.{◌≡◌, Bool, true, false, ◌||◌, List, [], ◌∷◌, Some, None, refl, ap, ◌∙◌, arith}
use Rattle.std.specs.Prelude.{Box, slice_get, if◌then◌else◌}
use Rattle.std.specs.Option.{unwrap_or}
use Rattle.std.specs.declared.alloc.Global.{Global}
use Rattle.dae_base.specs.declared.Place.{Place}
use Rattle.dae_tree.specs.declared.expressions.Declarator.{Declarator}
use Rattle.dae_tree.specs.Trees as tree
use Rattle.dae_tree.specs.Depth.{place_before, place_of_specifiers}
use Rattle.dae_tree.specs.Grammar.{void_word, void_alone}
use Rattle.dae_parse_grammar.specs.FirstPlaces.{firsts_declarator}
use Rattle.dae_tree.specs.Lists as lists
use Rattle.dae_parse_grammar.specs.Machine.{parameters_onto}
use Rattle.dae_parse_parts.specs.declared.reading.Read.{Read}
use Rattle.dae_parse_nodes.specs.Parts.{ShowsDeclarator, is_present, is_some_list, first_place}

-- the place of a declarator is that of its first node
first_of : (d : tree.Declarator) (q : Place) → unwrap_or (firsts_declarator d 0) q ≡ place_before d q
first_of tree.Absent q = refl
first_of (tree.Named n) q = refl
first_of (tree.Pointer p qs d) q = refl
first_of (tree.Grouped p d) q = refl
first_of (tree.Unsized d p) q = refl
first_of (tree.Sized d p e) q = refl
first_of (tree.Empty d p) q = refl
first_of (tree.Void d p r) q = refl
first_of (tree.Function d p ps) q = refl

pub place_at_first : (read : Read (Box Declarator Global)) (d : tree.Declarator) (q : Place) → ShowsDeclarator read d → unwrap_or (slice_get read.depths.places.items 0) q ≡ place_before d q
place_at_first read d q h = ap (λ o. unwrap_or o q) (h.holds.places.entries 0 (omega arith)) ∙ first_of d q

pub chosen_then : {A : Type 0} (b : Bool) (x y z : A) → b ≡ true → x ≡ z → (if b then x else y) ≡ z
chosen_then true x y z e d = d
chosen_then false x y z e d = cc

pub chosen_else : {A : Type 0} (b : Bool) (x y z : A) → b ≡ false → y ≡ z → (if b then x else y) ≡ z
chosen_else true x y z e d = cc
chosen_else false x y z e d = d

-- `void` alone is not one of two parameters
one_of_two : (ws vs : tree.Specifiers) (d e : tree.Declarator) (ps : tree.Parameters) → void_alone (tree.parameter_then ws d (tree.parameter_then vs e ps)) ≡ None
one_of_two ws vs tree.Absent e ps = refl
one_of_two ws vs (tree.Named n) e ps = refl
one_of_two ws vs (tree.Pointer p qs d) e ps = refl
one_of_two ws vs (tree.Grouped p d) e ps = refl
one_of_two ws vs (tree.Unsized d p) e ps = refl
one_of_two ws vs (tree.Sized d p a) e ps = refl
one_of_two ws vs (tree.Empty d p) e ps = refl
one_of_two ws vs (tree.Void d p r) e ps = refl
one_of_two ws vs (tree.Function d p qs) e ps = refl

two_onto : (before : List lists.Parameter) (ws vs : tree.Specifiers) (d e : tree.Declarator) (ps : tree.Parameters)
    → void_alone (parameters_onto before (tree.parameter_then ws d (tree.parameter_then vs e ps))) ≡ None
two_onto [] ws vs d e ps = one_of_two ws vs d e ps
two_onto (b ∷ before) ws vs d e ps = two_onto before b.specifiers ws b.declarator d (tree.parameter_then vs e ps)

void_of_one : (ws : tree.Specifiers) (d : tree.Declarator) → void_alone (tree.parameter_then ws d tree.no_parameters) ≡ (if is_present d then None else void_word ws)
void_of_one ws tree.Absent = refl
void_of_one ws (tree.Named n) = refl
void_of_one ws (tree.Pointer p qs d) = refl
void_of_one ws (tree.Grouped p d) = refl
void_of_one ws (tree.Unsized d p) = refl
void_of_one ws (tree.Sized d p e) = refl
void_of_one ws (tree.Empty d p) = refl
void_of_one ws (tree.Void d p q) = refl
void_of_one ws (tree.Function d p ps) = refl

pub void_of_parameters : (ps : List lists.Parameter) (ws : tree.Specifiers) (d : tree.Declarator)
    → void_alone (parameters_onto (record { specifiers = ws; declarator = d } ∷ ps) tree.no_parameters) ≡ (if is_some_list ps || is_present d then None else void_word ws)
void_of_parameters [] ws d = void_of_one ws d
void_of_parameters (p ∷ ps) ws d = two_onto ps p.specifiers ws p.declarator d tree.no_parameters

-- the place of specifiers
pub place_some : (ws : tree.Specifiers) (p q : Place) → Some p ≡ first_place ws → p ≡ place_of_specifiers ws q
place_some tree.no_specifiers p q e = cc
place_some (tree.specifier_then w ws) p q e = cc

pub place_none : (ws : tree.Specifiers) (q : Place) → None ≡ first_place ws → q ≡ place_of_specifiers ws q
place_none tree.no_specifiers q e = refl
place_none (tree.specifier_then w ws) q e = cc
