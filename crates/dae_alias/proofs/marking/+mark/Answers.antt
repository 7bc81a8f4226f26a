use Rattle.std.proofs.Common.{◌≡◌, List, inl, inr, length, sym, subst, arith, rules}
use Rattle.dae_ir.specs.declared.form.Statement.{Statement, the_lemmas}
use Rattle.dae_alias.specs.declared.walking.Walk.{Walk}
use Rattle.dae_alias.specs.Marking.{Marks, MarksAll}
use Rattle.dae_alias.specs.Meeting.{known_in}
use Rattle.dae_alias.proofs.Marks.{marked_all, marked_first, marked_next, if_marks, loop_marks}
use Rattle.dae_alias.proofs.Sets.{begun_seldom, further_seldom, still_seldom}
use Rattle.dae_alias.proofs.marking.+mark.Goals as goal

pub mark_statement-returns-in_ok-mark_item-in-Simple :
    goal.mark_statement-returns-in_ok-mark_item-in-Simple
mark_statement-returns-in_ok-mark_item-in-Simple t c =
    subst (λ (s : Statement). Marks s c.args.walk.now c.mark_item.new.walk c.args.marks.now.items c.mark_item.new.marks.items) (sym c.in-Simple.is) (c.in_ok-mark_item-in-Simple.ensures c.in-Simple.field-0)

pub mark_statement-returns-in_ok-mark_statements-in-If-2 :
    goal.mark_statement-returns-in_ok-mark_statements-in-If-2
mark_statement-returns-in_ok-mark_statements-in-If-2 t c =
    let w = c.in-If in
    let first : MarksAll w.first.items c.args.marks.now.items c.mark_statements.new.marks.items = subst (λ (xs : List Statement). MarksAll xs c.args.marks.now.items c.mark_statements.new.marks.items) c.deref.ensures.value c.in_ok-mark_statements-in-If.ensures in
    let second : MarksAll w.second.items c.mark_statements.new.marks.items c.mark_statements-in-If.new.marks.items = subst (λ (xs : List Statement). MarksAll xs c.mark_statements.new.marks.items c.mark_statements-in-If.new.marks.items) c.deref-in-If.ensures.value c.in_ok-mark_statements-in-If-2.ensures in
    let old = c.args.walk.now in
    let new : Walk = record { sets = c.begin_again.new.walk.sets; held = c.begin_again.new.walk.held; loads = c.len-walk.result } in
    let o = c.mark_statements-in-If.new.marks.ok in
    let n = c.len-walk.ensures in
    let count : c.len-walk.result ≡ length c.mark_statements-in-If.new.marks.items = omega (arith, n, o) in
    elim c.in-If.is [
      | inl i ↦ subst (λ (s : Statement). Marks s old new c.args.marks.now.items c.mark_statements-in-If.new.marks.items) (sym i.2)
          (if_marks old new c.args.marks.now.items c.mark_statements.new.marks.items c.mark_statements-in-If.new.marks.items w.first w.second first second c.requires.at c.begin_again.ensures.known c.begin_again.ensures.held count i.0 i.1)
      | inr i ↦ subst (λ (s : Statement). Marks s old new c.args.marks.now.items c.mark_statements-in-If.new.marks.items) (sym i.1)
          (loop_marks old new c.args.marks.now.items c.mark_statements.new.marks.items c.mark_statements-in-If.new.marks.items w.first w.second first second c.requires.at c.begin_again.ensures.known c.begin_again.ensures.held count i.0)
    ]

pub mark_statements-loop-statement-init : goal.mark_statements-loop-statement-init
mark_statements-loop-statement-init t c =
    let start = c.start-walk.ensures in let o = c.args.marks.now.ok in let n = c.len.ensures in let l = start.loads in
    record {
      marked = marked_first c.args.statements.now c.args.marks.now.items c.start-walk.result start.known start.held (omega (arith, n, o, l));
      seldom = begun_seldom (known_in c.start-walk.result) 0 start.known;
    }

pub mark_statements-loop-statement-preserved : goal.mark_statements-loop-statement-preserved
mark_statements-loop-statement-preserved t c =
    let so_far = c.loop-statement.invariant in let one = c.in_ok-mark_statement.ensures in
    record {
      marked = marked_next c.args.statements.now c.args.marks.now.items c.loop-statement.statement-index c.statement-item.result c.loop-statement.walk c.mark_statement.new.walk c.loop-statement.marks.items c.mark_statement.new.marks.items
          c.loop-statement-test.true c.statement-item.is so_far.marked one;
      seldom = further_seldom (known_in c.loop-statement.walk) (known_in c.mark_statement.new.walk) c.loop-statement.statement-index so_far.seldom one.once;
    }

pub mark_statements-mark_statement-requires : goal.mark_statements-mark_statement-requires
mark_statements-mark_statement-requires t c =
    let so_far = c.loop-statement.invariant in let marked = so_far.marked in (
      search (rules, the_lemmas),
      (
        marked.at,
        still_seldom (known_in c.loop-statement.walk) c.loop-statement.statement-index (length c.args.statements.now) so_far.seldom c.loop-statement-test.true (omega arith),
      ),
    )

pub mark_statements-returns : goal.mark_statements-returns
mark_statements-returns t c =
    let so_far = c.loop-statement.invariant in
    marked_all c.args.statements.now c.args.marks.now.items c.loop-statement.statement-index c.loop-statement.walk c.loop-statement.marks.items c.loop-statement-test.false so_far.marked
