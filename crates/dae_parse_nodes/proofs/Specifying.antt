-- Specifiers with one more behind them.
use Rattle.std.proofs.Common.{◌≡◌, ℕ, ◌||◌, List, [], ◌∷◌, ◌++◌, Option, Some, None, refl, sym, ap, subst, ◌∙◌}
use Rattle.std.specs.Prelude.{Vec}
use Rattle.std.specs.Option.{unwrap_or}
use Rattle.std.specs.declared.alloc.Global.{Global}
use Rattle.dae_base.specs.declared.Place.{Place}
use Rattle.dae_base.proofs.Laws.{or_nothing, or_along}
use Rattle.dae_tree.specs.declared.words.Keyword.TheVariants as keywords
use Rattle.dae_tree.specs.declared.expressions.Specifier.{Specifier}
use Rattle.dae_tree.specs.Trees as tree
use Rattle.dae_tree.specs.Depth.{place_of_specifier, place_of_specifiers}
use Rattle.dae_tree.specs.Names.{has_typedef, is_typedef_specifier}
use Rattle.dae_tree.specs.Grammar.{void_word}
use Rattle.dae_tree.specs.Views.{view_specifier, views_specifiers}
use Rattle.dae_parse_grammar.specs.FirstPlaces.{Places, or_else, both, firsts_specifier, firsts_specifiers}
use Rattle.dae_parse_grammar.specs.Machine.{specifiers_onto}
use Rattle.dae_parse_grammar.proofs.Laws.{or_else_along}
use Rattle.dae_parse_parts.specs.declared.reading.Read.{Read}
use Rattle.dae_parse_parts.specs.Shown.{Holds, IsSeen, Shows, IsLonger}
use Rattle.dae_parse_nodes.specs.Parts.{specifier_word, says_typedef, void_place, ShowsSpecifiers, ShowsSpecifier, first_place}
use Rattle.dae_parse_parts.proofs.Laws.{holds_same, or_else_none}
use Rattle.dae_parse_parts.proofs.Laws.{seen_at}

-- specifiers before others
abbrev joined : tree.Specifiers → tree.Specifiers → tree.Specifiers
joined tree.no_specifiers more = more
joined (tree.specifier_then w ws) more = tree.specifier_then w (joined ws more)

onto_joined : (before : List tree.Specifier) (ws more : tree.Specifiers) → specifiers_onto before (joined ws more) ≡ joined (specifiers_onto before ws) more
onto_joined [] ws more = refl
onto_joined (w ∷ before) ws more = onto_joined before (tree.specifier_then w ws) more

abbrev one : tree.Specifier → tree.Specifiers
one w = tree.specifier_then w tree.no_specifiers

last_joined : (before : List tree.Specifier) (w : tree.Specifier) → specifiers_onto (w ∷ before) tree.no_specifiers ≡ joined (specifiers_onto before tree.no_specifiers) (one w)
last_joined before w = onto_joined before tree.no_specifiers (one w)

-- what a specifier's word says of it
pub typedef_by_word : (w : tree.Specifier) → says_typedef (specifier_word w) ≡ is_typedef_specifier w
typedef_by_word (tree.Word p k) = refl
typedef_by_word _ = refl

pub void_by_word : (w : tree.Specifier) → void_place (place_of_specifier w) (specifier_word w) ≡ void_word (one w)
void_by_word (tree.Word p keywords.Void) = refl
void_by_word _ = refl

typedef_joined : (ws : tree.Specifiers) (w : tree.Specifier) → has_typedef (joined ws (one w)) ≡ has_typedef ws || is_typedef_specifier w
typedef_joined tree.no_specifiers w = or_nothing (is_typedef_specifier w)
typedef_joined (tree.specifier_then v ws) w = ap (λ b. is_typedef_specifier v || b) (typedef_joined ws w) ∙ or_along (is_typedef_specifier v) (has_typedef ws) (is_typedef_specifier w)

place_joined : (ws : tree.Specifiers) (w : tree.Specifier) → first_place (joined ws (one w)) ≡ Some (unwrap_or (first_place ws) (place_of_specifier w))
place_joined tree.no_specifiers w = refl
place_joined (tree.specifier_then v ws) w = refl

void_of_two : (v w : tree.Specifier) (ws : tree.Specifiers) → void_word (tree.specifier_then v (tree.specifier_then w ws)) ≡ None
void_of_two (tree.Word p keywords.Void) w ws = refl
void_of_two _ w ws = refl

void_joined : (v : tree.Specifier) (ws : tree.Specifiers) (w : tree.Specifier) → void_word (joined (tree.specifier_then v ws) (one w)) ≡ None
void_joined v tree.no_specifiers w = void_of_two v w tree.no_specifiers
void_joined v (tree.specifier_then u ws) w = void_of_two v u (joined ws (one w))

firsts_joined : (ws : tree.Specifiers) (w : tree.Specifier) (i : ℕ) → both (firsts_specifiers ws) (firsts_specifier w) i ≡ firsts_specifiers (joined ws (one w)) i
firsts_joined tree.no_specifiers w i = or_else_none (firsts_specifier w i)
firsts_joined (tree.specifier_then v ws) w i =
    sym (or_else_along (firsts_specifier v i) (firsts_specifiers ws i) (firsts_specifier w i)) ∙ ap (or_else (firsts_specifier v i)) (firsts_joined ws w i)

views_joined : (xs : List Specifier) (t : Specifier) → views_specifiers (xs ++ t ∷ []) ≡ joined (views_specifiers xs) (one (view_specifier t))
views_joined [] t = refl
views_joined (x ∷ xs) t = ap (tree.specifier_then (view_specifier x)) (views_joined xs t)

seen_joined : (before : Option (Vec Specifier Global)) (item : Option Specifier) (o : Option (Vec Specifier Global)) (ws : tree.Specifiers) (w : tree.Specifier)
    → IsSeen (λ list. views_specifiers list.items) before ws → IsSeen view_specifier item w → IsLonger before item o → IsSeen (λ list. views_specifiers list.items) o (joined ws (one w))
seen_joined before item None ws w h k p = tt
seen_joined before item (Some list) ws w h k p =
    let e : views_specifiers p.0.items ≡ ws = seen_at (λ list. views_specifiers list.items) before ws p.0 h p.2 in
    let d : view_specifier p.1 ≡ w = seen_at view_specifier item w p.1 k p.3 in
    ap views_specifiers p.4 ∙ views_joined p.0.items p.1 ∙ ap (λ vs. joined vs (one (view_specifier p.1))) e ∙ ap (λ v. joined ws (one v)) d

pub shows_joined : (before : Read (Vec Specifier Global)) (item : Read Specifier) (longer : Read (Vec Specifier Global)) (ws : List tree.Specifier) (w : tree.Specifier)
    → ShowsSpecifiers before (specifiers_onto ws tree.no_specifiers) → ShowsSpecifier item w
    → ((f g : Places) → Holds before f → Holds item g → Holds longer (both f g) × IsLonger before.tree item.tree longer.tree)
    → ShowsSpecifiers longer (specifiers_onto (w ∷ ws) tree.no_specifiers)
shows_joined before item longer ws w h k made =
    let vs = specifiers_onto ws tree.no_specifiers in
    let m = made (firsts_specifiers vs) (firsts_specifier w) h.holds k.holds in
    subst (λ us. Shows (λ (list : Vec Specifier Global). views_specifiers list.items) firsts_specifiers longer us) (sym (last_joined ws w)) (record {
      holds = holds_same longer _ _ (firsts_joined vs w) m.0;
      seen = seen_joined before.tree item.tree longer.tree vs w h.seen k.seen m.1;
    })

pub typedef_last : (ws : List tree.Specifier) (w : tree.Specifier) → has_typedef (specifiers_onto (w ∷ ws) tree.no_specifiers) ≡ has_typedef (specifiers_onto ws tree.no_specifiers) || is_typedef_specifier w
typedef_last ws w = ap has_typedef (last_joined ws w) ∙ typedef_joined (specifiers_onto ws tree.no_specifiers) w

pub place_last : (ws : List tree.Specifier) (w : tree.Specifier) → first_place (specifiers_onto (w ∷ ws) tree.no_specifiers) ≡ Some (unwrap_or (first_place (specifiers_onto ws tree.no_specifiers)) (place_of_specifier w))
place_last ws w = ap first_place (last_joined ws w) ∙ place_joined (specifiers_onto ws tree.no_specifiers) w

void_at_first : (ws : tree.Specifiers) (w : tree.Specifier) → None ≡ first_place ws → void_word (joined ws (one w)) ≡ void_word (one w)
void_at_first tree.no_specifiers w e = refl
void_at_first (tree.specifier_then v ws) w e = cc

void_behind : (ws : tree.Specifiers) (w : tree.Specifier) (p : Place) → Some p ≡ first_place ws → void_word (joined ws (one w)) ≡ None
void_behind tree.no_specifiers w p e = cc
void_behind (tree.specifier_then v ws) w p e = void_joined v ws w

pub void_first : (ws : List tree.Specifier) (w : tree.Specifier) → None ≡ first_place (specifiers_onto ws tree.no_specifiers) → void_word (specifiers_onto (w ∷ ws) tree.no_specifiers) ≡ void_word (one w)
void_first ws w e = ap void_word (last_joined ws w) ∙ void_at_first (specifiers_onto ws tree.no_specifiers) w e

pub void_last : (ws : List tree.Specifier) (w : tree.Specifier) (p : Place) → Some p ≡ first_place (specifiers_onto ws tree.no_specifiers) → void_word (specifiers_onto (w ∷ ws) tree.no_specifiers) ≡ None
void_last ws w p e = ap void_word (last_joined ws w) ∙ void_behind (specifiers_onto ws tree.no_specifiers) w p e

pub place_of_first : (ws : tree.Specifiers) (q : Place) → unwrap_or (first_place ws) q ≡ place_of_specifiers ws q
place_of_first tree.no_specifiers q = refl
place_of_first (tree.specifier_then w ws) q = refl
