use Rattle.std.proofs.Common.{◌<◌, ◌≤◌, IfSome, refl, map, Option, Some, None, ℕ}
use Rattle.dae_lex_scan.proofs.Places.{row_is_spelled}
use Rattle.dae_lex_scan.proofs.Longest.{longest}
use Rattle.dae_tree.specs.Tables.{first_row, IsLongestRow}
use Rattle.dae_tree.specs.declared.pieces.PieceKind.{PieceKind}
use Rattle.dae_tree.specs.declared.signs.TheConstants.{SIGNS}
use Rattle.dae_lex_scan.proofs.tables.sign_in_table.Goals as goal

both : (o : Option (ℕ × PieceKind)) (n : ℕ) → IfSome o (λ f. 0 < f.0) → IfSome o (λ f. f.0 ≤ n) → IfSome o (λ f. (0 < f.0) × (f.0 ≤ n))
both None n a b = tt
both (Some f) n a b = (a, b)

pub returns-clause-within : goal.returns-clause-within
returns-clause-within c =
    let rows = map (λ r. (r.0.now, r.1)) SIGNS in
    let spelled : IfSome (first_row rows c.args.bytes.now) (λ f. 0 < f.0) = row_is_spelled rows c.args.bytes.now refl in
    both _ _ (rw (c.find_row.ensures.value) spelled) c.find_row.ensures.within

pub returns-clause-longest : goal.returns-clause-longest
returns-clause-longest c =
    let rows = map (λ r. (r.0.now, r.1)) SIGNS in
    let first : IfSome (first_row rows c.args.bytes.now) (λ f. IsLongestRow rows c.args.bytes.now f.0) = longest 3 rows c.args.bytes.now refl in
    rw (c.find_row.ensures.value) first
