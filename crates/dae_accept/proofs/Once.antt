-- Texts are read in one way.
use Rattle.std.proofs.Common.{◌≡◌, inl, inr, ℕ, List, [], ◌∷◌, Result, Ok, Err, ap, sym, subst, ◌∙◌}
use Rattle.dae_tree.specs.declared.faults.LexError.{LexError}
use Rattle.dae_tree.specs.Reading.{Reading}
use Rattle.dae_tree.specs.Files.{FileContents}
use Rattle.dae_tree.specs.FileViews.{view_externals}
use Rattle.dae_tree.specs.Trees.{External}
use Rattle.dae_parse.specs.declared.error.ParseError.{ParseError}
use Rattle.dae_parse.specs.declared.error.ParseError.TheVariants as errors
use Rattle.dae_parse.specs.Parsed.{AreAlike, IsCause, IsFileOf, IsRefused, IsWithinLimits}
use Rattle.dae_accept.specs.Alike.{AreLike, IsLike}
use Rattle.dae_accept.specs.Read.{AreFilesOf, AreRead, HasNoTokens, IsFirstRefused, IsTreeRefusal}

-- the tokens of a text have one tree
abbrev pub OneTree : Type 0
OneTree = (r : Reading) (f g : FileContents) → IsFileOf r f → IsFileOf r g → view_externals f.externals ≡ view_externals g.externals

-- and where they have one they are not refused
abbrev pub NoneRefused : Type 0
NoneRefused = (r : Reading) (file : List External) (e : ParseError) → IsWithinLimits r.tokens file → IsCause e → IsRefused r e → ⊥

one_reading : (rs qs : List Reading) (all : Result (List Reading) LexError) → all ≡ Ok rs → all ≡ Ok qs → rs ≡ qs
one_reading rs qs all h k = cc

no_reading : (rs : List Reading) (e : LexError) (all : Result (List Reading) LexError) → all ≡ Ok rs → all ≡ Err e → ⊥
no_reading rs e all h k = cc

like : OneTree → (r : Reading) (f g : FileContents) → IsFileOf r f → IsFileOf r g → IsLike f g
like law r f g h k = record {
  tree = law r f g h k;
  names = h.names ∙ sym k.names;
  literals = h.literals ∙ sym k.literals;
  stdio = h.stdio ∙ sym k.stdio;
  stdlib = h.stdlib ∙ sym k.stdlib;
}

all_like : OneTree → (rs : List Reading) (fs gs : List FileContents) → AreFilesOf rs fs → AreFilesOf rs gs → AreLike fs gs
all_like law [] [] [] h k = tt
all_like law [] [] (g ∷ gs) h k = absurd k
all_like law [] (f ∷ fs) gs h k = absurd h
all_like law (r ∷ rs) [] gs h k = absurd h
all_like law (r ∷ rs) (f ∷ fs) [] h k = absurd k
all_like law (r ∷ rs) (f ∷ fs) (g ∷ gs) h k = (like law r f g h.0 k.0, all_like law rs fs gs h.1 k.1)

not_refused : NoneRefused → (rs : List Reading) (fs : List FileContents) (e : ParseError) → AreFilesOf rs fs → IsFirstRefused rs e → ⊥
not_refused law [] fs e h k = k
not_refused law (r ∷ rs) [] e h k = h
not_refused law (r ∷ rs) (f ∷ fs) e h (inl x) = law r (view_externals f.externals) e h.0.tree x.0 x.1
not_refused law (r ∷ rs) (f ∷ fs) e h (inr x) = not_refused law rs fs e h.1 x.2

pub read_alike : OneTree → (texts : List (List ℕ)) (fs gs : List FileContents) → AreRead texts fs → AreRead texts gs → AreLike fs gs
read_alike law texts fs gs h k =
    all_like law h.readings fs gs h.trees
    (subst (λ (rs : List Reading). AreFilesOf rs gs) (one_reading k.readings h.readings _ k.tokens h.tokens) k.trees)

pub read_cut : (e : LexError) (texts : List (List ℕ)) (fs : List FileContents) → AreRead texts fs → HasNoTokens texts e → ⊥
read_cut e texts fs h k = no_reading h.readings e _ h.tokens k

pub read_parsed : NoneRefused → (e : ParseError) (texts : List (List ℕ)) (fs : List FileContents) → AreRead texts fs → IsTreeRefusal texts e → ⊥
read_parsed law e texts fs h k =
    not_refused law h.readings fs e h.trees
    (subst (λ (rs : List Reading). IsFirstRefused rs e) (one_reading k.readings h.readings _ k.tokens h.tokens) k.first)

-- ---- one cause

-- two refusals of one text are of one kind and one place
abbrev pub OneRefusal : Type 0
OneRefusal = (r : Reading) (d e : ParseError) → IsRefused r d → IsRefused r e → AreAlike d e

same_cause : (d e : ParseError) → IsCause d → IsCause e → AreAlike d e → d ≡ e
same_cause (errors.Syntax p) (errors.Syntax q) c k h = ap errors.Syntax h
same_cause (errors.Syntax p) (errors.TooDeep q) c k h = absurd h
same_cause (errors.Syntax p) (errors.FunctionTooLong q) c k h = absurd h
same_cause (errors.Syntax p) errors.Memory c k h = absurd k
same_cause (errors.TooDeep p) (errors.Syntax q) c k h = absurd h
same_cause (errors.TooDeep p) (errors.TooDeep q) c k h = ap errors.TooDeep h
same_cause (errors.TooDeep p) (errors.FunctionTooLong q) c k h = absurd h
same_cause (errors.TooDeep p) errors.Memory c k h = absurd k
same_cause (errors.FunctionTooLong p) (errors.Syntax q) c k h = absurd h
same_cause (errors.FunctionTooLong p) (errors.TooDeep q) c k h = absurd h
same_cause (errors.FunctionTooLong p) (errors.FunctionTooLong q) c k h = ap errors.FunctionTooLong h
same_cause (errors.FunctionTooLong p) errors.Memory c k h = absurd k
same_cause errors.Memory e c k h = absurd c

first_once : NoneRefused → OneRefusal → (rs : List Reading) (d e : ParseError) → IsFirstRefused rs d → IsFirstRefused rs e → d ≡ e
first_once none one [] d e h k = absurd h
first_once none one (r ∷ rs) d e (inl x) (inl y) = same_cause d e x.0 y.0 (one r d e x.1 y.1)
first_once none one (r ∷ rs) d e (inl x) (inr y) = absurd (none r y.0 d y.1 x.0 x.1)
first_once none one (r ∷ rs) d e (inr x) (inl y) = absurd (none r x.0 e x.1 y.0 y.1)
first_once none one (r ∷ rs) d e (inr x) (inr y) = first_once none one rs d e x.2 y.2

one_error : (d e : LexError) (all : Result (List Reading) LexError) → all ≡ Err d → all ≡ Err e → d ≡ e
one_error d e all h k = cc

pub cut_once : (texts : List (List ℕ)) (d e : LexError) → HasNoTokens texts d → HasNoTokens texts e → d ≡ e
cut_once texts d e h k = one_error d e _ h k

pub parsed_once : NoneRefused → OneRefusal → (texts : List (List ℕ)) (d e : ParseError) → IsTreeRefusal texts d → IsTreeRefusal texts e → d ≡ e
parsed_once none one texts d e h k =
    first_once none one h.readings d e h.first
    (subst (λ (rs : List Reading). IsFirstRefused rs e) (one_reading k.readings h.readings _ k.tokens h.tokens) k.first)

pub cut_first : (texts : List (List ℕ)) (d : LexError) (e : ParseError) → HasNoTokens texts d → IsTreeRefusal texts e → ⊥
cut_first texts d e h k = no_reading k.readings d _ k.tokens h
