-- Going on among the members of structures.
use Rattle.std.proofs.Common.{◌≡◌, ◌≢◌, ◌∙◌, ℕ, ◌+◌, ◌<◌, List, [], ◌∷◌, Bool, true, false, nat_eq, cond, length, drop, ap, Some}
use Rattle.std.proofs.Math.ListN.{get_or}
use Rattle.std.proofs.lemmas.Bool.{eq-eqb, ne_eqb}
use Rattle.std.proofs.lemmas.List.{drop_more}
use Rattle.std.proofs.lemmas.List.Sums.{take_while-cons}
use Rattle.std.specs.Prelude.{filter, not, find, option_map, take_while}
use Rattle.dae_types_kinds.specs.declared.types.Layout.{Layout}
use Rattle.dae_types_kinds.specs.declared.tables.Component.{Component}
use Rattle.dae_types_kinds.specs.Tables.{Tables}
use Rattle.dae_types_kinds.specs.Types.{layout_at, placed}
use Rattle.dae_types_typed.specs.Sound.{is_member_of}
use Rattle.dae_types.specs.Layouts.{is_member_called, member_behind, place_after, with_members}

-- behind a member of another structure
passed : (s : Tables) (l : Layout) (c : Component) (cs : List Component) (n name : ℕ) → nat_eq c.structure n ≡ false → member_behind s l (filter (is_member_of n) (c ∷ cs)) name ≡ member_behind s l (filter (is_member_of n) cs) name
passed s l c cs n name h = let fs = filter (is_member_of n) cs in ap (λ (b : Bool). member_behind s l (cond b (c ∷ fs) fs) name) h

pub of_another : (s : Tables) (l : Layout) (xs : List Component) (i n name : ℕ) (d : Component) → i < length xs → (get_or xs i d).structure ≢ n → member_behind s l (filter (is_member_of n) (drop i xs)) name ≡ member_behind s l (filter (is_member_of n) (drop (i + 1) xs)) name
of_another s l xs i n name d lt h =
    let c = get_or xs i d in
    ap (λ (ds : List Component). member_behind s l (filter (is_member_of n) ds) name) (drop_more xs i d lt)
    ∙ passed s l c (drop (i + 1) xs) n name (ne_eqb c.structure n h)

-- behind a member of another name
placed_first : (s : Tables) (l : Layout) (c : Component) (cs : List Component) (name : ℕ) → nat_eq c.name name ≡ false → member_behind s l (c ∷ cs) name ≡ member_behind s (placed l (layout_at s c.type_id)) cs name
placed_first s l c cs name h =
    let other = λ (x : Component). not (is_member_called name x) in
    let found = find (is_member_called name) cs in
    ap (λ (before : List Component). option_map (place_after s (with_members s l before)) (cond (nat_eq c.name name) (Some c) found)) (take_while-cons other c cs)
    ∙ ap (λ (b : Bool). option_map (place_after s (with_members s l (cond (not b) (c ∷ take_while other cs) []))) (cond b (Some c) found)) h

kept : (s : Tables) (l : Layout) (c : Component) (cs : List Component) (n name : ℕ) → nat_eq c.structure n ≡ true → nat_eq c.name name ≡ false → member_behind s l (filter (is_member_of n) (c ∷ cs)) name ≡ member_behind s (placed l (layout_at s c.type_id)) (filter (is_member_of n) cs) name
kept s l c cs n name h k =
    let fs = filter (is_member_of n) cs in
    ap (λ (b : Bool). member_behind s l (cond b (c ∷ fs) fs) name) h ∙ placed_first s l c fs name k

pub of_other_name : (s : Tables) (l : Layout) (xs : List Component) (i n name : ℕ) (d : Component) → i < length xs → (get_or xs i d).structure ≡ n → (get_or xs i d).name ≢ name → member_behind s l (filter (is_member_of n) (drop i xs)) name ≡ member_behind s (placed l (layout_at s (get_or xs i d).type_id)) (filter (is_member_of n) (drop (i + 1) xs)) name
of_other_name s l xs i n name d lt h k =
    let c = get_or xs i d in
    ap (λ (ds : List Component). member_behind s l (filter (is_member_of n) ds) name) (drop_more xs i d lt)
    ∙ kept s l c (drop (i + 1) xs) n name (eq-eqb c.structure n h) (ne_eqb c.name name k)
