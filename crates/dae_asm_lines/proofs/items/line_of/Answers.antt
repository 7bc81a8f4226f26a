use Rattle.std.proofs.Common.{◌≡◌, ℕ, true, false, List, Option, Some, None, sym, ap, ◌∙◌, subst}
use Rattle.std.specs.Option.{is_some}
use Rattle.std.specs.Str.{IsAscii}
use Rattle.dae_asm_lines.specs.Tokens.{tokens_of, before_comment}
use Rattle.dae_asm_lines.specs.Scanning.{Gives}
use Rattle.dae_asm_lines.specs.Reading.{end, item_of}
use Rattle.dae_asm_lines.specs.Lines.{IsLine, seen}
use Rattle.dae_asm_lines.proofs.Lines.{nothing_said, item_said, none_said}
use Rattle.dae_asm_lines.proofs.items.line_of.Goals as goal

-- what code found of the part before the comment
abbrev Ended : Option (Unit {0}) → List ℕ → Type 0
Ended o part = Gives (λ (x : Unit {0}). x) o (end (tokens_of part))

empty_line : (line : List ℕ) (o : Option (Unit {0})) → IsAscii line → Ended o (before_comment line) → true ≡ is_some o → IsLine line None
empty_line line None ascii gives e = absurd cc
empty_line line (Some u) ascii gives e = nothing_said line u ascii gives

not_empty : (part : List ℕ) (o : Option (Unit {0})) → Ended o part → false ≡ is_some o → end (tokens_of part) ≡ None
not_empty part None gives e = gives
not_empty part (Some u) gives e = absurd cc

pub returns-then-is_some : goal.returns-then-is_some
returns-then-is_some c =
    empty_line c.args.line.now c.end.result c.if-not-is_ascii.ensures.cases
    (subst (λ (part : List ℕ). Ended c.end.result part) c.before_comment-spoken.ensures c.end.ensures) c.if-is_some.ensures

pub returns-in-Some : goal.returns-in-Some
returns-in-Some c =
    let read = c.in-Some.ensures in
    item_said c.args.line.now (seen c.in-Some.item) c.if-not-is_ascii.ensures.cases
    (ap (λ (part : List ℕ). item_of (tokens_of part)) (sym c.before_comment-spoken.ensures) ∙ read)

pub returns-in-None : goal.returns-in-None
returns-in-None c =
    let same = sym c.before_comment-spoken.ensures in
    let some = not_empty c.before_comment-spoken.result.now c.end.result c.end.ensures c.if-is_some.ensures in
    none_said c.args.line.now (ap (λ (part : List ℕ). end (tokens_of part)) same ∙ some)
    (ap (λ (part : List ℕ). item_of (tokens_of part)) same ∙ c.in-None.ensures)
