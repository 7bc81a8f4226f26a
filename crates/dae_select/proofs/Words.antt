-- The words at which actions begin stand within the code.
use Rattle.std.proofs.Common.{◌≡◌, ℕ, ◌+◌, ◌^◌, ◌≤◌, ◌<◌, List, ◌++◌, length, map, sym, subst, arith, length-append}
use Rattle.std.proofs.Math.Seq.{take-append_seam}
use Rattle.std.specs.List.{All}
use Rattle.std.proofs.lemmas.List.Elements.{All-append, All-map, All-take, All-weaker}
use Rattle.dae_encode.specs.declared.Inst.{Inst}
use Rattle.dae_select.specs.declared.growing.PlacedWord.{PlacedWord}
use Rattle.dae_select.specs.Grown.{advance, before_end, from_front, StandWithin}

-- some of the words, where all are these
pub in_part : (n : ℕ) (ps more all : List PlacedWord) → ps ++ more ≡ all → StandWithin n all → StandWithin n ps
in_part n ps more all is within =
    let whole = subst (λ (l : List PlacedWord). StandWithin n l) (sym is) within in
    subst (λ (l : List PlacedWord). StandWithin n l) (take-append_seam ps more) (All-take (λ (p : PlacedWord). p.word ≤ n) (length ps) (ps ++ more) whole)

pub wider : (n m : ℕ) (ps : List PlacedWord) → n ≤ m → StandWithin n ps → StandWithin m ps
wider n m ps le within = All-weaker (λ (p : PlacedWord). p.word ≤ n) (λ (p : PlacedWord). p.word ≤ m) (λ p h. omega (arith, le, h)) ps within

-- those of code that comes before other code
joined_within : (n k : ℕ) (ps more : List PlacedWord) → StandWithin n ps → StandWithin k more → StandWithin (n + k) (ps ++ map (advance n) more)
joined_within n k ps more here there =
    All-append (λ (p : PlacedWord). p.word ≤ n + k) ps (map (advance n) more) (wider n (n + k) ps (omega arith) here)
    (All-map (λ (p : PlacedWord). p.word ≤ n + k) (advance n) more (All-weaker (λ (p : PlacedWord). p.word ≤ k) (λ (p : PlacedWord). n + p.word ≤ n + k) (λ p h. omega (arith, h)) more there))

pub put_within : (is js : List Inst) (ps qs : List PlacedWord) → StandWithin (length is) ps → StandWithin (length js) qs → StandWithin (length (is ++ js)) (ps ++ map (advance (length is)) qs)
put_within is js ps qs here there =
    subst (λ (n : ℕ). StandWithin n (ps ++ map (advance (length is)) qs)) (sym (length-append is js)) (joined_within (length is) (length js) ps qs here there)

-- 64 bits count them
pub counted : (n k : ℕ) (more : List PlacedWord) → n < 2 ^ 63 → k < 2 ^ 63 → StandWithin k more → All (λ (p : PlacedWord). n + p.word < 2 ^ 64) more
counted n k more small few within = All-weaker (λ (p : PlacedWord). p.word ≤ k) (λ (p : PlacedWord). n + p.word < 2 ^ 64) (λ p h. omega (arith, small, few, h)) more within

-- told from the front they stand within what they were told from
pub front_within : (end : ℕ) (ps : List PlacedWord) → StandWithin end (from_front end ps)
front_within end ps = All-map (λ (p : PlacedWord). p.word ≤ end) (before_end end) ps (λ k d lt. omega arith)
