-- The files of several readings, in order, and the first refusal.
use Rattle.std.proofs.Common.{◌≡◌, inr, ℕ, ◌+◌, ◌<◌, ◌≤◌, List, [], ◌∷◌, ◌++◌, length, drop, get_or, ap, sym, ◌∙◌, subst, append-nil, append_assoc}
use Rattle.std.proofs.lemmas.List.{drop_all}
use Rattle.dae_base.proofs.Laws.{drop_at}
use Rattle.dae_tree.specs.Reading.{Reading}
use Rattle.dae_tree.specs.Files.{FileContents}
use Rattle.dae_tree.specs.FileViews.{view_externals}
use Rattle.dae_parse.specs.declared.error.ParseError.{ParseError}
use Rattle.dae_parse.specs.Parsed.{IsFileOf}
use Rattle.dae_accept.specs.Read.{AreFilesOf, IsFirstRefused}

-- so far there are these, and with those of the readings from an index on they are all; the first refusal of those is that of all
pub record Starts (rs : List Reading) (i : ℕ) (files : List FileContents) : Type 0 where
  pub ends : (rest : List FileContents) → AreFilesOf (drop i rs) rest → AreFilesOf rs (files ++ rest)
  pub stops : (e : ParseError) → IsFirstRefused (drop i rs) e → IsFirstRefused rs e

pub next_files : (rs : List Reading) (i : ℕ) (r : Reading) (f : FileContents) (files new : List FileContents) → i < length rs → r ≡ get_or rs i r
    → Starts rs i files → IsFileOf r f → new ≡ files ++ f ∷ [] → Starts rs (i + 1) new
next_files rs i r f files new lt is h k e = record {
  ends = λ rest g.
      subst (λ (fs : List FileContents). AreFilesOf rs fs)
      (sym (append_assoc files (f ∷ []) rest) ∙ ap (λ (fs : List FileContents). fs ++ rest) (sym e))
      (h.ends (f ∷ rest) (subst (λ (xs : List Reading). AreFilesOf xs (f ∷ rest)) (sym (drop_at rs i r lt is)) (k, g)));
  stops = λ d g. h.stops d (subst (λ (xs : List Reading). IsFirstRefused xs d) (sym (drop_at rs i r lt is)) (inr (view_externals f.externals, k.tree, g)));
}

pub last_files : (rs : List Reading) (i : ℕ) (files : List FileContents) → length rs ≤ i → Starts rs i files → AreFilesOf rs files
last_files rs i files le h =
    subst (λ (fs : List FileContents). AreFilesOf rs fs) (append-nil files)
    (h.ends [] (subst (λ (xs : List Reading). AreFilesOf xs []) (sym (drop_all i rs le)) tt))
