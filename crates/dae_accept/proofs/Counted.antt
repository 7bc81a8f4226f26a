-- Words number the files that are read of texts, and their functions.
use Rattle.std.proofs.Common.{◌≡◌, ℕ, suc, ◌+◌, ◌≤◌, ◌<◌, ◌^◌, List, [], ◌∷◌, ◌++◌, length, Result, Ok, Err, refl, ap, subst, arith, length-append}
use Rattle.std.proofs.lemmas.List.{length-map}
use Rattle.std.specs.Prelude.{Vec}
use Rattle.std.specs.declared.alloc.Global.{Global}
use Rattle.dae_tree.specs.Files.{FileContents}
use Rattle.dae_tree.specs.Reading.{Reading}
use Rattle.dae_tree.specs.Tokens as tree
use Rattle.dae_tree.specs.declared.faults.LexError.{LexError}
use Rattle.dae_tree.specs.declared.tokens.Room.{Room}
use Rattle.dae_types.specs.Answers.{start_in}
use Rattle.dae_types_typed.specs.declared.files.FileParts.{FileParts}
use Rattle.dae_types_typed.specs.declared.files.TypedFunction.{TypedFunction}
use Rattle.dae_unit.specs.Meanings.{bodies_from, bodies_of, body_row, body_rows}
use Rattle.dae_unit.specs.declared.rows.FileRow.{FileRow}
use Rattle.dae_sizes.specs.Promise.{FunctionsAreCounted}
use Rattle.dae_sizes.specs.Sources.{ArePlanned, count_functions}
use Rattle.dae_accept.specs.Accepted.{AreTyped}
use Rattle.dae_accept.specs.Origins.{ReadAreWithin}
use Rattle.dae_accept.specs.Read.{AreFilesOf, AreRead, readings_from, texts_in, whole_room, with_first}

-- ---- files

abbrev AreSoMany : ℕ → Result (List Reading) LexError → Type 0
AreSoMany n (Ok rs) = length rs ≡ n
AreSoMany n (Err e) = Unit {0}

first_counts : (n : ℕ) (r : Reading) (y : Result (List Reading) LexError) → AreSoMany n y → AreSoMany (suc n) (with_first r y)
first_counts n r (Ok rs) h = ap suc h
first_counts n r (Err e) h = tt

one_for_each : (file : ℕ) (room : Room) (texts : List (List ℕ)) → AreSoMany (length texts) (readings_from file room texts)
one_for_each file room [] = refl
one_for_each file room (text ∷ texts) = by (λ left. one_for_each (file + 1) left texts) (tree.tokens_of file text room)
  where
    by : ((left : Room) → AreSoMany (length texts) (readings_from (file + 1) left texts)) → (x : Result (Reading × Room) LexError)
        → AreSoMany (suc (length texts)) (elim x [ Ok x ↦ with_first x.0 (readings_from (file + 1) x.1 texts) | Err e ↦ Err e ])
    by later (Ok x) = first_counts (length texts) x.0 (readings_from (file + 1) x.1 texts) (later x.1)
    by later (Err e) = tt

many_files : (rs : List Reading) (cs : List FileContents) → AreFilesOf rs cs → length cs ≡ length rs
many_files [] [] h = refl
many_files [] (c ∷ cs) h = absurd h
many_files (r ∷ rs) [] h = absurd h
many_files (r ∷ rs) (c ∷ cs) h = ap suc (many_files rs cs h.1)

many_typed : (cs : List FileContents) (ts : List FileParts) → AreTyped cs ts → length ts ≡ length cs
many_typed [] [] h = refl
many_typed [] (t ∷ ts) h = absurd h
many_typed (c ∷ cs) [] h = absurd h
many_typed (c ∷ cs) (t ∷ ts) h = ap suc (many_typed cs ts h.1)

pub few_files : (texts : List (List ℕ)) (cs : List FileContents) (ts : List FileParts) → length texts ≤ 1024 → AreRead texts cs → AreTyped cs ts → length ts < 2 ^ 32
few_files texts cs ts few read typed =
    let count = subst (λ y. AreSoMany (length texts) y) read.tokens (one_for_each 0 whole_room texts) in
    let all = many_files read.readings cs read.trees in
    let last = many_typed cs ts typed in
    omega (arith, few, count, all, last)

pub few_texts : (texts : List (Vec ℕ Global)) → length texts ≤ 1024 → length (texts_in texts) ≤ 1024
few_texts texts few = let same = length-map texts (λ (text : Vec ℕ Global). text.items) in omega (arith, few, same)

-- ---- functions

rows_long : (done : List FileRow) (k : ℕ) (fs : List TypedFunction) → length (body_rows done k fs) ≡ length done + length fs
rows_long done k [] = omega arith
rows_long done k (f ∷ fs) = let h = rows_long (done ++ body_row k f ∷ []) k fs in let l = length-append done (body_row k f ∷ []) in omega (arith, h, l)

bodies_long : (done : List FileRow) (k : ℕ) (ts : List FileParts) → length (bodies_from done k ts) ≡ length done + count_functions ts
bodies_long done k [] = omega arith
bodies_long done k (t ∷ ts) = let h = bodies_long (body_rows done k t.functions) (suc k) ts in let r = rows_long done k t.functions in omega (arith, h, r)

planned : (cs : List FileContents) (ts : List FileParts) → AreTyped cs ts → ArePlanned cs ts
planned [] [] h = tt
planned [] (t ∷ ts) h = absurd h
planned (c ∷ cs) [] h = absurd h
planned (c ∷ cs) (t ∷ ts) h =
    let one = h.0 in ((start_in c, record { tables = one.tables; products = one.products; spellings = c.names; checked = one.checked; reads = one.reads }), planned cs ts h.1)

pub few_functions : FunctionsAreCounted → ReadAreWithin → (texts : List (List ℕ)) (cs : List FileContents) (ts : List FileParts) → AreRead texts cs → AreTyped cs ts → length (bodies_of ts) < 2 ^ 32
few_functions counted within texts cs ts read typed =
    let long = bodies_long [] 0 ts in
    let half = counted cs ts (planned cs ts typed) in
    let few = within texts cs read in
    let most = few.0 in
    omega (arith, long, half, most)
