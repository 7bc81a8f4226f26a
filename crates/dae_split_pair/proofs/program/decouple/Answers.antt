use Rattle.std.proofs.Common.{◌<◌, arith}
use Rattle.dae_ir_pair.proofs.Laws.{budget_covers, budget_is_within_cap, program_kept}
use Rattle.dae_split_pair.proofs.LawsOfBudgets.{small_groups, pair_ordered}
use Rattle.dae_split_pair.proofs.program.decouple.Goals as goal

pub budget-budget-requires : goal.budget-budget-requires
budget-budget-requires c =
    let ir = c.args.ir.now in
    let cap = c.args.cap in
    let tables = c.in_ok-classes.classes in
    let made = c.in_ok-pair.pair in
    let pair = rw c.as_slice.ensures at c.in_ok-pair.ensures in
    let some : 0 < cap = omega (arith, c.requires.some) in
    let few = c.requires.few in
    small_groups made (pair_ordered ir tables cap made pair)
    (λ budget due. let small = budget_is_within_cap ir tables cap made budget some pair due in let ld = small.ld in let cq = small.cq in (omega arith, omega arith))

pub returns : goal.returns
returns c =
    let ir = c.args.ir.now in
    let cap = c.args.cap in
    let tables = c.in_ok-classes.classes in
    let made = c.in_ok-pair.pair in
    let pair = rw c.as_slice.ensures at c.in_ok-pair.ensures in
    let some : 0 < cap = omega (arith, c.requires.some) in
    let due = c.budget-budget.ensures in
    let budget = c.budget-budget.result in
    record {
      classes = c.in_ok-classes.ensures.least;
      rows = c.in_ok-classes.ensures.rows;
      pair = pair;
      budget = due;
      within_cap = budget_is_within_cap ir tables cap made budget some pair due;
      covers = budget_covers ir tables cap made budget pair due;
      same = program_kept ir tables c.in_ok-classes.ensures.least cap;
    }
