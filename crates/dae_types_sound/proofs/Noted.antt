-- Names that are noted, by their bytes.
use Rattle.std.proofs.Common.{◌≡◌, ℕ, List, [], ◌∷◌, ◌++◌, ap, ◌∙◌, if◌then◌else◌}
use Rattle.std.specs.Borrow.{Bor}
use Rattle.std.specs.List.{list_any}
use Rattle.std.specs.Str.{bytes_eq}
use Rattle.indexmap.specs.IndexSet.{insert_key}
use Rattle.dae_base.proofs.Laws.{choose_mapped, any_mapped, now_of, same_key}

pub insert_mapped : (k : Bor (List ℕ)) (ks : List (Bor (List ℕ)))
    → now_of (insert_key same_key ks k) ≡ (if list_any (bytes_eq k.now) (now_of ks) then now_of ks else now_of ks ++ k.now ∷ [])
insert_mapped k ks =
    choose_mapped k ks (list_any (same_key k) ks)
    ∙ ap (λ b. if b then now_of ks else now_of ks ++ k.now ∷ []) (any_mapped k.now ks)
