-- What is due for files without an image.
use Rattle.std.proofs.Common.{◌≡◌, ◌⊎◌, inl, inr, ℕ, suc, ◌%◌, ◌≤◌, Bool, true, not, ◌&&◌, nat_le, List, [], ◌∷◌, ◌++◌, length, map, refl, ap, ◌∙◌, subst, sym, arith, rules}
use Rattle.std.specs.Prelude.{Option, Vec, IsTrue}
use Rattle.std.specs.List.{All, AllByRecursion, list_all}
use Rattle.std.specs.Str.{is_utf8}
use Rattle.std.specs.declared.alloc.Global.{Global}
use Rattle.std.proofs.lemmas.Bool.{and_parts}
use Rattle.std.proofs.lemmas.List.Elements.{All-from_recursion}
use Rattle.dae_base.proofs.Laws.{is_true}
use Rattle.dae_image.specs.Contents.{is_name}
use Rattle.dae_accept.specs.Read.{IsShort, texts_in}
use Rattle.dae_image.specs.declared.Image.{Image}
use Rattle.dae_cli_options.specs.Names.{begins_with_dash, is_file_name}
use Rattle.dae_cli_options.specs.declared.options.Options.{Options}
use Rattle.dae_cli_drive.specs.Lines.{memory_line}
use Rattle.dae_cli_drive.specs.Puts.{Answer, told}
use Rattle.dae_cli_drive.specs.ImageFiles.{NoneOf}
use Rattle.dae_cli_drive.specs.Shelves.{ShelfSeen}
use Rattle.dae_compile.specs.Images.{IsImageOf}
use Rattle.dae_cli_source_jobs.specs.Fetching.{AreFetched, IsFirstNotFetched, most_source}
use Rattle.dae_cli_source_jobs.specs.Sources.{DueOfFiles, due_fetched, due_not_fetched, due_memory_to_fetch, DueOfTexts, due_of_image, due_refused, due_memory_to_compile, IsImageOfFiles}

-- ---- what is due where there is no image, by what is due for one

pub texts_without : {names texts : List (List ℕ)} {c : Options} {DueOf : Image → Answer → Type 0} {a : Answer} → DueOfTexts names texts c NoneOf a → DueOfTexts names texts c DueOf a
texts_without (due_of_image image made d) = absurd d
texts_without (due_refused e other refused) = due_refused e other refused
texts_without due_memory_to_compile = due_memory_to_compile

pub texts_with : {names texts : List (List ℕ)} {c : Options} {DueOf : Image → Answer → Type 0} {a : Answer} {image : Image} → IsImageOf texts names c image → DueOf image a → DueOfTexts names texts c DueOf a
texts_with {image = image} h d = due_of_image image h d

pub files_without : {names : List (List ℕ)} {s : ShelfSeen} {c : Options} {DueOf : Image → Answer → Type 0} {a : Answer} → DueOfFiles names s c NoneOf a → DueOfFiles names s c DueOf a
files_without (due_fetched texts all d) = due_fetched texts all (texts_without d)
files_without (due_not_fetched d) = due_not_fetched d
files_without due_memory_to_fetch = due_memory_to_fetch

pub files_with : {names : List (List ℕ)} {s : ShelfSeen} {c : Options} {DueOf : Image → Answer → Type 0} {a : Answer} {image : Image} → IsImageOfFiles s.told names c image → DueOf image a → DueOfFiles names s c DueOf a
files_with {image = image} h d = due_fetched h.texts h.fetched (due_of_image image h.made d)

pub not_fetched_due : {names : List (List ℕ)} {s : ShelfSeen} {c : Options} {x : Answer} → (x ≡ told 7 memory_line) ⊎ IsFirstNotFetched s most_source names x → DueOfFiles names s c NoneOf x
not_fetched_due {names} {s} {c} (inl e) = subst (λ (a : Answer). DueOfFiles names s c NoneOf a) (sym e) due_memory_to_fetch
not_fetched_due (inr d) = due_not_fetched d

pub texts_stop : {names texts : List (List ℕ)} {c : Options} {x y : Answer} → (x ≡ y) ⊎ (x ≡ told 7 memory_line) → DueOfTexts names texts c NoneOf y → DueOfTexts names texts c NoneOf x
texts_stop {names} {texts} {c} (inl e) d = subst (λ (a : Answer). DueOfTexts names texts c NoneOf a) (sym e) d
texts_stop {names} {texts} {c} (inr e) d = subst (λ (a : Answer). DueOfTexts names texts c NoneOf a) (sym e) due_memory_to_compile

-- ---- texts that were fetched

as_many_names : {X : Type 0} (text : X → List ℕ) (xs : List X) → length (map text xs) ≡ length xs
as_many_names text [] = refl
as_many_names text (x ∷ xs) = ap suc (as_many_names text xs)

pub as_many_texts : {X : Type 0} (text : X → List ℕ) (names : List X) (texts : List (Vec ℕ Global)) → length (map text names) ≡ length (texts_in texts) → length names ≡ length texts
as_many_texts text names texts h = sym (as_many_names text names) ∙ (h ∙ as_many_names (λ (t : Vec ℕ Global). t.items) texts)

each_short : (texts : List (Vec ℕ Global)) → AllByRecursion (λ t. length t ≤ 1048576) (texts_in texts) → AllByRecursion IsShort texts
each_short [] h = tt
each_short (t ∷ ts) h = (h.0, each_short ts h.1)

pub short_texts : (texts : List (Vec ℕ Global)) → AllByRecursion (λ t. length t ≤ 1048576) (texts_in texts) → All IsShort texts
short_texts texts h = All-from_recursion IsShort texts (each_short texts h)

-- ---- names that an image can list

one_name : (n : List ℕ) → is_file_name n ≡ true → is_utf8 n ≡ true → is_name n ≡ true
one_name n h u =
    let parts = and_parts (not (begins_with_dash n)) (nat_le 1 (length n) && nat_le (length n) 4096) h in
    let sizes = and_parts (nat_le 1 (length n)) (nat_le (length n) 4096) parts.1 in
    let even : length n % 1 ≡ 0 = omega arith in
    rw (sizes.0, sizes.1, even, u) refl

all_names : (ns : List (List ℕ)) → list_all is_file_name ns ≡ true → list_all is_utf8 ns ≡ true → list_all is_name ns ≡ true
all_names [] h u = refl
all_names (n ∷ ns) h u =
    let files = and_parts (is_file_name n) (list_all is_file_name ns) h in
    let texts = and_parts (is_utf8 n) (list_all is_utf8 ns) u in
    rw (one_name n files.0 texts.0, all_names ns files.1 texts.1) refl

pub are_names : (ns : List (List ℕ)) → IsTrue (list_all is_file_name ns) → list_all is_utf8 ns ≡ true → IsTrue (list_all is_name ns)
are_names ns h u = subst IsTrue (sym (all_names ns (is_true _ h) u)) (search rules)

pub all_with_last : (p : List ℕ → Bool) (ns : List (List ℕ)) (n : List ℕ) → list_all p ns ≡ true → p n ≡ true → list_all p (ns ++ (n ∷ [])) ≡ true
all_with_last p [] n h k = rw k refl
all_with_last p (m ∷ ns) n h k =
    let parts = and_parts (p m) (list_all p ns) h in
    rw (parts.0, all_with_last p ns n parts.1 k) refl
