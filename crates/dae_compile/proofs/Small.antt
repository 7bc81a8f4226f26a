-- The image of texts is small, and their program has one where memory isn't wanting.
use Rattle.std.proofs.Common.{◌≡◌, ◌⊎◌, ℕ, zero, suc, ◌+◌, ◌-◌, ◌*◌, ◌^◌, ◌<◌, ◌≤◌, true, ◌&&◌, List, [], ◌∷◌, ◌++◌, length, None, inl, inr, refl, ap, subst, arith, length-append}
use Rattle.std.proofs.lemmas.Bool.{false≢true, and_parts}
use Rattle.std.specs.Prelude.{slice_get, IfOk, Result, Ok, Err}
use Rattle.std.specs.List.{AllByRecursion, list_all}
use Rattle.dae_base.specs.declared.Place.{Place}
use Rattle.dae_image.specs.declared.Image.{Image}
use Rattle.dae_tree.specs.Depth.{greatest_length}
use Rattle.dae_tree.specs.Files.{FileContents}
use Rattle.dae_program.specs.declared.program.Function.{Function}
use Rattle.dae_program.specs.declared.program.Program.{Program}
use Rattle.dae_program.specs.Lawful.{is_lawful, is_lawful_in, is_lawful_memory, is_main, is_ready, is_well_placed, spares}
use Rattle.dae_ir.specs.Form.{form_of}
use Rattle.dae_ir.specs.declared.form.Function.{Function as FormFunction}
use Rattle.dae_ir.specs.declared.form.Ir.{Ir}
use Rattle.dae_select_walks.specs.Homes.{frame_words}
use Rattle.dae_compile.specs.Generated.{words_of_form, words_of_functions, HasFramesWithin, HaveAtMost, IsShort, NeedsTooMuch}
use Rattle.dae_lower_formed.specs.Formed.{AreFormsOf, IsFormOf, IsLowered}
use Rattle.dae_sizes.specs.Promise.{burdens_of, DefinitionsAreShort, FormsAreWithin, FramesAreWithin, FunctionsAreCounted, HasFrameWithin, IsForm}
use Rattle.dae_sizes.specs.Sources.{ArePlanned, AreTypedAs, AreUpTo, bytes_in, count_functions, start_by, tokens_in}
use Rattle.dae_types_typed.specs.declared.files.FileParts.{FileParts}
use Rattle.dae_types_typed.specs.declared.files.TypedFunction.{TypedFunction}
use Rattle.dae_unit.specs.Meanings.{function_of, functions_from, functions_in}
use Rattle.dae_accept.specs.Origins.{IsOfFiles, ReadAreWithin}
use Rattle.dae_lower_formed.specs.Code.{loads_in}
use Rattle.dae_compile.specs.Compiled.{IsCompiledFrom, IsFinalForm, HasFewVariables, HasTooMuchPrivate, HasTooMuchCode, LeavesNumbers}
use Rattle.dae_compile.specs.Sizes.{private_beside, words_beside, AreSmallBy, IsSmallBy, IsSmallBeside}

-- ---- words of code

words_weigh : (fs gs : List FormFunction) → AreSmallBy fs gs → words_of_functions gs ≤ 14 * burdens_of fs
words_weigh [] [] is = omega arith
words_weigh [] (g ∷ gs) is = absurd is
words_weigh (f ∷ fs) [] is = absurd is
words_weigh (f ∷ fs) (g ∷ gs) is = let h = is.0 in let one = h.words in let k = words_weigh fs gs is.1 in omega (arith, one, k)

words_within : FormsAreWithin → (files : List FileContents) (first ir : Ir) → AreSmallBy first.functions ir.functions → IsForm files first → words_of_form ir ≤ words_beside files
words_within within files first ir of is =
    let h = words_weigh first.functions ir.functions of in
    let g = within files first is in omega (arith, h, g)

-- ---- frames

all_more : {X : Type 0} (P Q : X → Type 0) → ((x : X) → P x → Q x) → (xs : List X) → AllByRecursion P xs → AllByRecursion Q xs
all_more P Q h [] all = tt
all_more P Q h (x ∷ xs) all = (h x all.0, all_more P Q h xs all.1)

have_at_most : (n : ℕ) (ir : Ir) → AllByRecursion (λ (g : FormFunction). 19 + g.variables ≤ 8 * n) ir.functions → HaveAtMost (8 * n - 19) ir
have_at_most n ir all =
    all_more (λ (g : FormFunction). 19 + g.variables ≤ 8 * n) (λ (g : FormFunction). g.variables ≤ 8 * n - 19) (λ g h. omega (arith, h)) ir.functions all

later_frame : (n : ℕ) (f g : FormFunction) → IsSmallBy f g → HasFrameWithin n f → 19 + g.variables ≤ 8 * n
later_frame n f g is frame = let more = is.variables in omega (arith, more, frame)

later_frames : (n : ℕ) (fs gs : List FormFunction) → AreSmallBy fs gs → AllByRecursion (HasFrameWithin n) fs → AllByRecursion (λ (g : FormFunction). 19 + g.variables ≤ 8 * n) gs
later_frames n [] [] is all = tt
later_frames n [] (g ∷ gs) is all = absurd is
later_frames n (f ∷ fs) [] is all = tt
later_frames n (f ∷ fs) (g ∷ gs) is all = (later_frame n f g is.0 all.0, later_frames n fs gs is.1 all.1)

-- a lawful program has a function, main
has_function : (p : Program) → is_lawful p.memory p.frames p.content p.links p.functions p.main ≡ true → p.functions ≡ [] → ⊥
has_function p lawful none =
    let placed = (and_parts (is_well_placed p.memory p.frames p.content p.links p.functions p.main) (list_all (is_ready p.links p.functions) p.functions) lawful).0 in
    let first = (and_parts (is_lawful_memory p.memory p.frames (length p.content) && is_main p.memory p.links p.functions (slice_get p.functions p.main))
    (list_all (spares p.main) p.links && list_all (is_lawful_in p.memory p.links p.functions true) p.functions) placed).0 in
    let main = (and_parts (is_lawful_memory p.memory p.frames (length p.content)) (is_main p.memory p.links p.functions (slice_get p.functions p.main)) first).1 in
    let there : slice_get p.functions p.main ≡ None = ap (λ (fs : List Function). slice_get fs p.main) none in
    false≢true (subst (λ o. is_main p.memory p.links p.functions o ≡ true) there main)

-- so that a frame of 19 words is among those
frame_within : (n k : ℕ) (p : Program) (fs : List Function) (gs hs : List FormFunction) → AreFormsOf p k fs gs → AreSmallBy gs hs → (fs ≡ [] → ⊥) → AllByRecursion (λ (g : FormFunction). 19 + g.variables ≤ 8 * n) hs → 19 ≤ 8 * n
frame_within n k p [] gs hs a is some all = absurd (some refl)
frame_within n k p (f ∷ fs) [] hs a is some all = absurd a
frame_within n k p (f ∷ fs) (g ∷ gs) [] a is some all = absurd is
frame_within n k p (f ∷ fs) (g ∷ gs) (h ∷ hs) a is some all = let l = all.0 in omega (arith, l)

private_within : (n calls bytes : ℕ) (p : Program) (ir : Ir) → IsFinalForm p calls ir → AllByRecursion (λ (g : FormFunction). 19 + g.variables ≤ 8 * n) ir.functions
    → ((m : ℕ) → HaveAtMost m ir → bytes ≤ 4 * (ir.calls * frame_words m)) → bytes ≤ private_beside calls n
private_within n calls bytes p ir of all within =
    let lowered = of.lowered in
    let form = lowered.form in
    let first = of.first in
    let least : 19 ≤ 8 * n = frame_within n 0 p p.functions first.functions ir.functions form.functions of.small (has_function p lowered.lawful) all in
    let words : frame_words (8 * n - 19) ≡ 8 * n = omega (arith, least) in
    subst (λ c. bytes ≤ 4 * (c * (8 * n))) of.depth (subst (λ w. bytes ≤ 4 * (ir.calls * w)) words (within (8 * n - 19) (have_at_most n ir all)))

-- ---- the image

form_in : (texts : List (List ℕ)) (p : Program) (ir : Ir) (o : IsOfFiles texts p) → IsFormOf p ir → IsForm o.files ir
form_in texts p ir o form = record { typed = o.typed; from = o.from; program = p; functions = o.functions; form = form }

pub small : FormsAreWithin → FramesAreWithin → (texts : List (List ℕ)) (p : Program) (calls cap : ℕ) (image : Image) → IsOfFiles texts p → IsCompiledFrom p calls cap image → IsSmallBeside texts calls image
small forms frames texts p calls cap image o made =
    let ir = made.form in
    let of = made.final in
    let first = of.first in
    let lowered = of.lowered in
    let is : IsForm o.files first = form_in texts p first o lowered.form in
    let words = words_within forms o.files first ir of.small is in
    let short = made.short in
    let within = made.frames in
    let a = short.a in
    let e = short.e in
    record {
      files = o.files;
      read = o.read;
      code_a = omega (arith, a, words);
      code_e = omega (arith, e, words);
      private_a = λ n up. private_within n calls image.private_a p ir of (later_frames n first.functions ir.functions of.small (frames o.files first n is up)) within.a;
      private_e = λ n up. private_within n calls image.private_e p ir of (later_frames n first.functions ir.functions of.small (frames o.files first n is up)) within.e;
    }

-- ---- what isn't too large

pub never_long : ReadAreWithin → FormsAreWithin → (texts : List (List ℕ)) (p : Program) (calls : ℕ) → IsOfFiles texts p → HasTooMuchCode p calls → ⊥
never_long read forms texts p calls o h =
    let of = h.final in
    let lowered = of.lowered in
    let words = words_within forms o.files of.first h.form of.small (form_in texts p of.first o lowered.form) in
    let few = read texts o.files o.read in
    let a : tokens_in o.files ≤ 65536 = few.0 in
    let b : bytes_in o.files ≤ 65536 = few.1 in
    let long = h.long in absurd (omega (arith, words, a, b, long))

not_large : (calls : ℕ) → calls ≤ 4096 → (2 ^ 26 ≤ 65536) ⊎ (2 ^ 28 < calls * 65536) → ⊥
not_large calls few (inl e) = absurd (omega (arith, e))
not_large calls few (inr e) = absurd (omega (arith, e, few))

pub never_deep : DefinitionsAreShort → FramesAreWithin → (texts : List (List ℕ)) (p : Program) (calls : ℕ) → calls ≤ 4096 → IsOfFiles texts p → HasTooMuchPrivate p calls → ⊥
never_deep short frames texts p calls few o h =
    let ir = h.form in
    let of = h.final in
    let first = of.first in
    let lowered = of.lowered in
    let all = later_frames greatest_length first.functions ir.functions of.small (frames o.files first greatest_length (form_in texts p first o lowered.form) (short o.files o.typed o.from)) in
    not_large calls few (subst (λ c. (2 ^ 26 ≤ 65536) ⊎ (2 ^ 28 < c * 65536)) of.depth (h.needs (8 * greatest_length - 19) (have_at_most greatest_length ir all)))

-- ---- words number variables

leaves_numbers : (v l : ℕ) → 38 + (2 * v + (v - 9) + l) ≤ 131073 → 2 * v + (v - 9) + 2 * l < 2 ^ 33
leaves_numbers v l h = omega (arith, h)

all_leave : (gs : List FormFunction) → AllByRecursion (HasFrameWithin greatest_length) gs → AllByRecursion LeavesNumbers gs
all_leave gs all = all_more (HasFrameWithin greatest_length) LeavesNumbers (λ g frame. leaves_numbers g.variables (loads_in (form_of g.body)) frame) gs all

pub few_variables : DefinitionsAreShort → FramesAreWithin → (texts : List (List ℕ)) (p : Program) → IsOfFiles texts p → HasFewVariables p
few_variables short frames texts p o first lowered =
    all_leave first.functions (frames o.files first greatest_length (form_in texts p first o lowered.form) (short o.files o.typed o.from))

-- ---- words number functions

functions_long : (done : List Function) (k : ℕ) (fs : List TypedFunction) → length (functions_in done k fs) ≡ length done + length fs
functions_long done k [] = omega arith
functions_long done k (f ∷ fs) = let h = functions_long (done ++ function_of k f ∷ []) k fs in let l = length-append done (function_of k f ∷ []) in omega (arith, h, l)

all_long : (done : List Function) (k : ℕ) (ts : List FileParts) → length (functions_from done k ts) ≡ length done + count_functions ts
all_long done k [] = omega arith
all_long done k (t ∷ ts) = let h = all_long (functions_in done k t.functions) (suc k) ts in let l = functions_long done k t.functions in omega (arith, h, l)

planned : (cs : List FileContents) (ts : List FileParts) → AreTypedAs cs ts → ArePlanned cs ts
planned [] [] h = tt
planned [] (t ∷ ts) h = absurd h
planned (c ∷ cs) [] h = absurd h
planned (c ∷ cs) (t ∷ ts) h = let one = h.0 in ((start_by c one.numbers, one.typed), planned cs ts h.1)

pub few_functions : FunctionsAreCounted → ReadAreWithin → (texts : List (List ℕ)) (p : Program) → IsOfFiles texts p → length p.functions < 2 ^ 32
few_functions counted read texts p o =
    let long = all_long [] 0 o.typed in
    let same = ap (λ (fs : List Function). length fs) o.functions in
    let half = counted o.files o.typed (planned o.files o.typed o.from) in
    let few = read texts o.files o.read in
    let most : tokens_in o.files ≤ 65536 = few.0 in omega (arith, long, same, half, most)
