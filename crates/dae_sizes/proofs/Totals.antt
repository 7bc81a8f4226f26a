-- Frames beside the tokens of definitions, and whole streams beside those of files.
use Rattle.std.proofs.Common.{◌≡◌, ℕ, zero, suc, ◌+◌, ◌*◌, ◌≤◌, Bool, true, false, if◌then◌else◌, List, [], ◌∷◌, ◌++◌, length, Some, None, inl, inr, refl, ap, arith}
use Rattle.std.proofs.lemmas.Bool.{ltb-false}
use Rattle.std.specs.List.{AllByRecursion, range_with_len}
use Rattle.dae_base.proofs.Laws.{all_join}
use Rattle.dae_tree.specs.Depth.{greatest_length, is_too_long, first_too_long, place_of_external}
use Rattle.dae_tree.specs.Files.{FileContents, IsFile}
use Rattle.dae_tree.specs.FileViews.{view_externals}
use Rattle.dae_tree.specs.Marks.{literal_numbers}
use Rattle.dae_tree.specs.Names.{Names, after_external}
use Rattle.dae_tree.specs.Statements.{AreExternals, spell_external, spell_file}
use Rattle.dae_tree.specs.Trees.{External, Declared, Defined}
use Rattle.dae_program.specs.Views.{view_statements}
use Rattle.dae_program.specs.declared.program.Function.{Function}
use Rattle.dae_types_typed.specs.declared.files.FileParts.{FileParts}
use Rattle.dae_unit.specs.Meanings.{functions_from}
use Rattle.dae_ir.specs.Form.{form_of}
use Rattle.dae_ir.specs.Streams.{actions_of}
use Rattle.dae_ir.specs.declared.form.Function.{Function as FormFunction}
use Rattle.dae_ir.specs.declared.stream.StreamFunction.{StreamFunction}
use Rattle.dae_sizes.specs.Worth.{priced, pay_of_all, IsDefinition, PartsPay, DefinitionsAreLong}
use Rattle.dae_sizes.specs.Paid.{bytes_of_literal}
use Rattle.dae_lower_formed.specs.Code.{loaded_burden, loads_in}
use Rattle.dae_lower_formed.specs.Sizes.{most_made_in, most_made_of_slots}
use Rattle.dae_ir_pair.specs.Sizes.{words_in}
use Rattle.dae_sizes.specs.From.{AreFrom}
use Rattle.dae_sizes.specs.Small.{tokens, text, HasFew}
use Rattle.dae_sizes.specs.Sources.{Source, sources_of, sources_in, IsTypedAs, AreTypedAs, IsUpTo, tokens_of, tokens_in, bytes_of, bytes_in}
use Rattle.dae_sizes.specs.Promise.{DefinitionsAreShort, FormsAreFew, FormsAreLittle, FormsAreWithin, FramesAreSmall, FramesAreWithin, FunctionsAreFew, FunctionsAreWithin, HasFrameWithin, StreamsAreLittle, burdens_of, words_of, StreamsAreWithin}

-- ---- frames

from_all : {X Y : Type 0} (P : X → Type 0) (R S : X → Y → Type 0) → ((x : X) (y : Y) → P x → R x y → S x y) → (xs : List X) (ys : List Y) → AllByRecursion P xs → AreFrom R xs ys → AreFrom S xs ys
from_all P R S h xs [] p r = tt
from_all P R S h [] (y ∷ ys) p r = absurd r
from_all P R S h (x ∷ xs) (y ∷ ys) p (inl r) = inl (h x y p.0 r.0, from_all P R S h xs ys p.1 r.1)
from_all P R S h (x ∷ xs) (y ∷ ys) p (inr r) = inr (from_all P R S h xs (y ∷ ys) p.1 r)

abbrev IsLong : Source → Type 0
IsLong x = IsDefinition x.external → 4 ≤ tokens x.external

externals_long : DefinitionsAreLong → (ls : List (List ℕ)) (names : Names) (xs : List External) → AreExternals names xs → AllByRecursion IsLong (sources_of ls xs)
externals_long long ls names [] h = tt
externals_long long ls names (x ∷ xs) h = (λ is. long names x is h.0, externals_long long ls (after_external x names) xs h.1)

sources_long : DefinitionsAreLong → (cs : List FileContents) (files : List FileParts) → AreTypedAs cs files → AllByRecursion IsLong (sources_in cs)
sources_long long [] [] t = tt
sources_long long [] (f ∷ fs) t = absurd t
sources_long long (c ∷ cs) [] t = absurd t
sources_long long (c ∷ cs) (f ∷ fs) t =
    let one : IsTypedAs c f = t.0 in
    let parsed = one.parsed in
    all_join IsLong (sources_of c.literals (view_externals c.externals)) (sources_in cs) (externals_long long c.literals [] (view_externals c.externals) parsed.grammar) (sources_long long cs fs t.1)

pub frames_are_small : DefinitionsAreLong → FormsAreFew → FramesAreSmall
frames_are_small long few cs ir is =
    let R : Source → FormFunction → Type 0 = λ x g. IsDefinition x.external × (7 + g.variables ≤ 4 * tokens x.external) × (loads_in (form_of g.body) ≤ g.variables) in
    let S : Source → FormFunction → Type 0 = λ x g. HasFrameWithin (tokens x.external) g in
    from_all IsLong R S (λ x g p r. let a = p r.0 in let b = r.1 in let d = r.2 in omega (arith, a, b, d)) (sources_in cs) ir.functions (sources_long long cs is.typed is.from) (few cs ir is)

-- ---- frames where no definition has more than n tokens

all_both : {X : Type 0} (P Q : X → Type 0) (xs : List X) → AllByRecursion P xs → AllByRecursion Q xs → AllByRecursion (λ x. P x × Q x) xs
all_both P Q [] h k = tt
all_both P Q (x ∷ xs) h k = ((h.0, k.0), all_both P Q xs h.1 k.1)

-- what comes from what has one property has another
each_from : {X Y : Type 0} (P : X → Type 0) (R : X → Y → Type 0) (S : Y → Type 0) → ((x : X) (y : Y) → P x → R x y → S y) → (xs : List X) (ys : List Y) → AllByRecursion P xs → AreFrom R xs ys → AllByRecursion S ys
each_from P R S h xs [] p r = tt
each_from P R S h [] (y ∷ ys) p r = absurd r
each_from P R S h (x ∷ xs) (y ∷ ys) p (inl r) = (h x y p.0 r.0, each_from P R S h xs ys p.1 r.1)
each_from P R S h (x ∷ xs) (y ∷ ys) p (inr r) = each_from P R S h xs (y ∷ ys) p.1 r

pub functions_are_within : FunctionsAreFew → FunctionsAreWithin
functions_are_within few cs files n typed up =
    each_from (IsUpTo n) (λ (x : Source) (f : Function). HasFew x.external f.variables f.parameters (view_statements f.body)) (λ (f : Function). 7 + (f.variables + (most_made_of_slots f.parameters + most_made_in (view_statements f.body))) ≤ 4 * n)
    (λ x f most r. let a = most r.0 in let b = r.1 in omega (arith, a, b)) (sources_in cs) (functions_from [] 0 files) up (few cs files typed)

pub frames_are_within : DefinitionsAreLong → FormsAreFew → FramesAreWithin
frames_are_within long few cs ir n is up =
    let P : Source → Type 0 = λ x. IsLong x × IsUpTo n x in
    let R : Source → FormFunction → Type 0 = λ x g. IsDefinition x.external × (7 + g.variables ≤ 4 * tokens x.external) × (loads_in (form_of g.body) ≤ g.variables) in
    let S : FormFunction → Type 0 = HasFrameWithin n in
    each_from P R S (λ x g p r. let a = p.0 r.0 in let b = p.1 r.0 in let d = r.1 in let e = r.2 in omega (arith, a, b, d, e)) (sources_in cs) ir.functions
    (all_both IsLong (IsUpTo n) (sources_in cs) (sources_long long cs is.typed is.from) up) (few cs ir is)

-- ---- definitions have at most 8,192 tokens

one_short : (ls : List (List ℕ)) (x : External) → is_too_long x ≡ false → IsUpTo greatest_length (record { external = x; literals = ls })
one_short ls (Declared d) h is = absurd is
one_short ls (Defined ws d p ds ss) h is = ltb-false greatest_length (tokens (Defined ws d p ds ss)) h

externals_short : (ls : List (List ℕ)) (xs : List External) → first_too_long xs ≡ None → AllByRecursion (IsUpTo greatest_length) (sources_of ls xs)
externals_short ls [] h = tt
externals_short ls (x ∷ xs) h = by (externals_short ls xs) (is_too_long x) refl h
  where
    by : (first_too_long xs ≡ None → AllByRecursion (IsUpTo greatest_length) (sources_of ls xs)) → (b : Bool) → is_too_long x ≡ b → (if b then Some (place_of_external x) else first_too_long xs) ≡ None → AllByRecursion (IsUpTo greatest_length) (sources_of ls (x ∷ xs))
    by later true e q = absurd cc
    by later false e q = (one_short ls x e, later q)

pub definitions_are_short : DefinitionsAreShort
definitions_are_short [] [] t = tt
definitions_are_short [] (f ∷ fs) t = absurd t
definitions_are_short (c ∷ cs) [] t = absurd t
definitions_are_short (c ∷ cs) (f ∷ fs) t =
    let one : IsTypedAs c f = t.0 in
    let parsed = one.parsed in
    all_join (IsUpTo greatest_length) (sources_of c.literals (view_externals c.externals)) (sources_in cs) (externals_short c.literals (view_externals c.externals) parsed.short) (definitions_are_short cs fs t.1)

-- ---- what files pay

-- 224 for each token and 112 for each byte of a literal
abbrev pay : Source → ℕ
pay x = 224 * tokens x.external + 112 * text x.literals x.external

abbrev pays : List Source → ℕ
pays [] = 0
pays (x ∷ xs) = pay x + pays xs

pays-append : (xs ys : List Source) → pays (xs ++ ys) ≡ pays xs + pays ys
pays-append [] ys = omega arith
pays-append (x ∷ xs) ys = let h = pays-append xs ys in omega (arith, h)

words_paid : (xs : List Source) (gs : List StreamFunction) → AreFrom (λ x (g : StreamFunction). words_in (actions_of g.body) + 25 ≤ pay x) xs gs → words_of gs ≤ pays xs
words_paid xs [] r = omega arith
words_paid [] (g ∷ gs) r = absurd r
words_paid (x ∷ xs) (g ∷ gs) (inl r) = let h = r.0 in let k = words_paid xs gs r.1 in omega (arith, h, k)
words_paid (x ∷ xs) (g ∷ gs) (inr r) = let k = words_paid xs (g ∷ gs) r in omega (arith, k)

priced_twice : (f : ℕ → ℕ) (ns : List ℕ) → priced (λ n. 2 * f n) ns ≡ 2 * priced f ns
priced_twice f [] = refl
priced_twice f (n ∷ ns) = let h = priced_twice f ns in omega (arith, h)

abbrev bytes : List (List ℕ) → ℕ → ℕ
bytes ls n = length (bytes_of_literal ls n)

sources_pay : (ls : List (List ℕ)) (xs : List External) → pays (sources_of ls xs) ≡ 56 * pay_of_all (λ n. 2 * bytes ls n) xs
sources_pay ls [] = refl
sources_pay ls (x ∷ xs) =
    let h = sources_pay ls xs in
    let g = priced_twice (bytes ls) (literal_numbers (spell_external x [])) in omega (arith, h, g)

-- ---- each literal of a file stands in it once

shifted : (x : List ℕ) (ls : List (List ℕ)) (j k m : ℕ) → j ≡ k + 1 → priced (bytes (x ∷ ls)) (range_with_len j m) ≡ priced (bytes ls) (range_with_len k m)
shifted x ls j k zero e = refl
shifted x ls j k (suc m) e =
    let next : j ≡ suc k = omega (arith, e) in
    let g : bytes (x ∷ ls) j ≡ bytes ls k = ap (bytes (x ∷ ls)) next in
    let h = shifted x ls (j + 1) (k + 1) m (omega (arith, e)) in omega (arith, g, h)

all_priced : (ls : List (List ℕ)) → priced (bytes ls) (range_with_len 0 (length ls)) ≡ bytes_of ls
all_priced [] = refl
all_priced (x ∷ ls) = let h = shifted x ls (0 + 1) 0 (length ls) refl in let g = all_priced ls in omega (arith, h, g)

file_pays : PartsPay → (c : FileContents) → IsFile c → pays (sources_of c.literals (view_externals c.externals)) ≡ 224 * tokens_of c + 112 * bytes_of c.literals
file_pays parts c is =
    let xs = view_externals c.externals in
    let ls = c.literals in
    let h = sources_pay ls xs in
    let g = parts (λ n. 2 * bytes ls n) xs in
    let f = priced_twice (bytes ls) (literal_numbers (spell_file xs [])) in
    let e = ap (priced (bytes ls)) is.counted in
    let d = all_priced ls in omega (arith, h, g, f, e, d)

files_pay : PartsPay → (cs : List FileContents) (files : List FileParts) → AreTypedAs cs files → pays (sources_in cs) ≡ 224 * tokens_in cs + 112 * bytes_in cs
files_pay parts [] [] t = refl
files_pay parts [] (f ∷ fs) t = absurd t
files_pay parts (c ∷ cs) [] t = absurd t
files_pay parts (c ∷ cs) (f ∷ fs) t =
    let one : IsTypedAs c f = t.0 in
    let h = file_pays parts c one.parsed in
    let g = files_pay parts cs fs t.1 in
    let e = pays-append (sources_of c.literals (view_externals c.externals)) (sources_in cs) in omega (arith, h, g, e)

pub streams_are_within : PartsPay → StreamsAreLittle → StreamsAreWithin
streams_are_within parts little cs ir by_a of cap s is stream =
    let h = words_paid (sources_in cs) s.functions (little cs ir by_a of cap s is stream) in
    let g = files_pay parts cs is.typed is.from in omega (arith, h, g)

-- ---- forms

forms_paid : (xs : List Source) (gs : List FormFunction) → AreFrom (λ x (g : FormFunction). 28 + loaded_burden (form_of g.body) ≤ 16 * tokens x.external + 8 * text x.literals x.external) xs gs → 14 * burdens_of gs ≤ pays xs
forms_paid xs [] r = omega arith
forms_paid [] (g ∷ gs) r = absurd r
forms_paid (x ∷ xs) (g ∷ gs) (inl r) = let h = r.0 in let k = forms_paid xs gs r.1 in omega (arith, h, k)
forms_paid (x ∷ xs) (g ∷ gs) (inr r) = let k = forms_paid xs (g ∷ gs) r in omega (arith, k)

pub forms_are_within : PartsPay → FormsAreLittle → FormsAreWithin
forms_are_within parts little cs ir is =
    let h = forms_paid (sources_in cs) ir.functions (little cs ir is) in
    let g = files_pay parts cs is.typed is.from in omega (arith, h, g)
