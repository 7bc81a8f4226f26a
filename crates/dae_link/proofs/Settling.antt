-- Layouts one after the other.
use Rattle.std.proofs.Common.{◌≡◌, ℕ, zero, suc, ◌-◌, ◌*◌, ◌≤◌, ◌<◌, ◌^◌, inr, List, [], ◌∷◌, ◌++◌, length, get_or, ap, sym, subst, ◌∙◌, arith}
use Rattle.std.proofs.lemmas.Nat.{mul-le}
use Rattle.std.proofs.Math.Nat.{lt_of_lt_of_le}
use Rattle.std.specs.List.{AllByRecursion, AllZip}
use Rattle.dae_ir.specs.declared.stream.Stream.{Stream}
use Rattle.dae_ir.specs.declared.stream.StreamFunction.{StreamFunction}
use Rattle.dae_select_walks.specs.Homes.{frame_words}
use Rattle.dae_select_calls.specs.declared.layouts.FunctionLayout.{FunctionLayout}
use Rattle.dae_select_calls.specs.declared.layouts.Layouts.{Layouts}
use Rattle.dae_link.specs.Settled.{IsLayoutOf, IsFrameWithin, HasAtMost, IsTooDeep, IsPrivateWithin, AreUnplaced}

pub zip_more : (fs : List StreamFunction) (ls : List FunctionLayout) (f : StreamFunction) (l : FunctionLayout) → AllZip IsLayoutOf fs ls → IsLayoutOf f l → AllZip IsLayoutOf (fs ++ f ∷ []) (ls ++ l ∷ [])
zip_more [] [] f l h is = (is, tt)
zip_more [] (m ∷ ls) f l h is = absurd h
zip_more (g ∷ fs) [] f l h is = absurd h
zip_more (g ∷ fs) (m ∷ ls) f l h is = (h.0, zip_more fs ls f l h.1 is)

pub zip_few : (fs : List StreamFunction) (ls : List FunctionLayout) → AllZip IsLayoutOf fs ls → AllByRecursion (λ (l : FunctionLayout). l.variables < 2 ^ 26 - 19) ls
zip_few [] [] h = tt
zip_few [] (m ∷ ls) h = absurd h
zip_few (g ∷ fs) [] h = absurd h
zip_few (g ∷ fs) (m ∷ ls) h = (h.0.few, zip_few fs ls h.1)

pub frames_more : (n m : ℕ) (ls : List FunctionLayout) (l : FunctionLayout) → AllByRecursion (IsFrameWithin n) ls → n ≤ m → frame_words l.variables ≤ m → AllByRecursion (IsFrameWithin m) (ls ++ l ∷ [])
frames_more n m [] l h le w = (w, tt)
frames_more n m (k ∷ ls) l h le w = ((let a = h.0 in omega arith), frames_more n m ls l h.1 le w)

-- ---- frames for all variables

pub zip_within : (n : ℕ) (fs : List StreamFunction) (ls : List FunctionLayout) → AllZip IsLayoutOf fs ls → AllByRecursion (HasAtMost n) fs → AllByRecursion (IsFrameWithin (frame_words n)) ls
zip_within n [] [] h most = tt
zip_within n [] (m ∷ ls) h most = absurd h
zip_within n (g ∷ fs) [] h most = absurd h
zip_within n (g ∷ fs) (m ∷ ls) h most = ((let a = h.0.least g.variables most.0.own in let b = most.0.few in omega arith), zip_within n fs ls h.1 most.1)

has_at : (n : ℕ) (fs : List StreamFunction) (i : ℕ) (f : StreamFunction) → i < length fs → f ≡ get_or fs i f → AllByRecursion (HasAtMost n) fs → HasAtMost n f
has_at n [] i f lt is most = absurd (omega arith)
has_at n (g ∷ fs) zero f lt is most = subst (HasAtMost n) (sym is) most.0
has_at n (g ∷ fs) (suc i) f lt is most = has_at n fs i f (omega arith) is most.1

pub most_more : (n m : ℕ) (ls : List FunctionLayout) (l : FunctionLayout) → ((k : ℕ) → 19 ≤ k → AllByRecursion (IsFrameWithin k) ls → n ≤ k) → ((k : ℕ) → 19 ≤ k → n ≤ k → frame_words l.variables ≤ k → m ≤ k)
    → (k : ℕ) → 19 ≤ k → AllByRecursion (IsFrameWithin k) (ls ++ l ∷ []) → m ≤ k
most_more n m ls l old one k some all = let both = split ls all in one k some (old k some both.0) both.1
  where
    split : (xs : List FunctionLayout) → AllByRecursion (IsFrameWithin k) (xs ++ l ∷ []) → AllByRecursion (IsFrameWithin k) xs × IsFrameWithin k l
    split [] h = (tt, h.0)
    split (x ∷ xs) h = (let rest = split xs h.1 in ((h.0, rest.0), rest.1))

-- the private memory of the deepest calls
pub private_within : (stream : Stream) (all : Layouts) → AreUnplaced stream all → IsPrivateWithin stream all.private
private_within stream all unplaced = λ n most.
    let few = unplaced.few (frame_words n) (omega arith) (zip_within n stream.functions all.functions unplaced.functions most) in
    let words = mul-le stream.calls all.largest stream.calls (frame_words n) (omega arith) few in
    let private = unplaced.private in let limit = unplaced.limit in
    subst (λ (w : ℕ). w ≤ stream.calls * frame_words n) (sym (private ∙ ap (λ (c : ℕ). c * all.largest) limit)) words

pub too_deep : (stream : Stream) (ls : List FunctionLayout) (largest : ℕ) → AllZip IsLayoutOf stream.functions ls → ((n : ℕ) → 19 ≤ n → AllByRecursion (IsFrameWithin n) ls → largest ≤ n) → 2 ^ 28 < stream.calls * largest → IsTooDeep stream
too_deep stream ls largest zip few deep = λ n most.
    let frame = few (frame_words n) (omega arith) (zip_within n stream.functions ls zip most) in
    let words = mul-le stream.calls largest stream.calls (frame_words n) (omega arith) frame in
    inr (lt_of_lt_of_le deep words)
