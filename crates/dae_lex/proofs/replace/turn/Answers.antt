use Rattle.std.proofs.Common.{◌<◌, ◌+◌, [], ◌∷◌, length, ◌++◌, ap, sym, ◌∙◌, arith, inl, inr}
use Rattle.std.proofs.lemmas.Result.{on_ok_weaker}
use Rattle.std.proofs.lemmas.List.{length-append, length-map}
use Rattle.std.proofs.lemmas.Bool.{cases_eq}
use Rattle.dae_tree.specs.declared.faults.Construct.TheVariants.{TooManyReplacements}
use Rattle.dae_tree.specs.declared.faults.LexError.TheVariants.{Refused}
use Rattle.dae_tree.specs.Replacing.{replacement, items_of, replaced}
use Rattle.dae_lex.specs.declared.replace.OpenReplacement.{OpenReplacement}
use Rattle.dae_lex_scan.specs.Cuts.{cut_of}
use Rattle.dae_lex.specs.Numbers.{cuts_of, definitions_of}
use Rattle.dae_lex.specs.Settling.{state_of, settle}
use Rattle.dae_lex.specs.Pending.{pending, frame_of, frames_of, names_of}
use Rattle.dae_lex.proofs.Found.{frames_push, open_pop, open_push, next_numbered}
use Rattle.dae_lex.proofs.Turns.{frame_over, next_none, next_some, next_refused, follows, refuses, always, both_ok, no_room, work_over, work_take, work_begin}
use Rattle.dae_lex.proofs.replace.turn.Goals as goal

pub returns-in_default-next_of-clause-settles : goal.returns-in_default-next_of-clause-settles
returns-in_default-next_of-clause-settles c = λ n h.
    let ms = definitions_of c.args.macros.now in
    let o = cut_of c.args.origin in
    let top = c.in-Some.top in
    let over = frame_over ms o n (frames_of c.pop.new.self) (frame_of top) (ap cuts_of c.in_default-next_of.ensures) in
    let taken = frames_push c.args.stack.now c.pop.new.self (c.in-Some.number, top) c.in-Some.ensures.taken in
    ap (settle (state_of c.args.out.now)) (sym (ap (pending n ms [] o) taken ∙ over))

pub returns-in_default-next_of-clause-less : goal.returns-in_default-next_of-clause-less
returns-in_default-next_of-clause-less c =
    let top = c.in-Some.top in
    work_over c.args.out.now.room.replacements (frames_of c.args.stack.now) (frames_of c.pop.new.self) (frame_of top)
    (frames_push c.args.stack.now c.pop.new.self (c.in-Some.number, top) c.in-Some.ensures.taken)

pub returns-in_default-next_of-clause-numbered : goal.returns-in_default-next_of-clause-numbered
returns-in_default-next_of-clause-numbered c =
    let top = c.in-Some.top in
    (open_pop c.args.numbers.now c.args.stack.now c.pop.new.self (c.in-Some.number, top) c.in-Some.ensures.taken c.requires.numbered).0

pub take-requires-clause-numbered : goal.take-requires-clause-numbered
take-requires-clause-numbered c =
    let w = c.args.numbers.now in
    let top = c.in-Some.top in
    let popped = open_pop w c.args.stack.now c.pop.new.self (c.in-Some.number, top) c.in-Some.ensures.taken c.requires.numbered in
    (next_numbered w c.in-Some-next_of.next c.in-Some-next_of.others.now c.in-Some.top.rest.now c.in-Some-next_of.ensures popped.1.1).0

pub returns-in-Some-replacement_of-clause-settles : goal.returns-in-Some-replacement_of-clause-settles
returns-in-Some-replacement_of-clause-settles c = λ n h.
    let w = c.args.numbers.now in
    let ms = definitions_of c.args.macros.now in
    let o = cut_of c.args.origin in
    let s = state_of c.args.out.now in
    let t = state_of c.begin.new.out in
    let fs = frames_of c.pop.new.self in
    let top = c.in-Some.top in
    let next = c.in-Some-next_of.next in
    let others : OpenReplacement = record { name = c.in-Some.top.name; rest = c.in-Some-next_of.others } in
    let new : OpenReplacement = record { name = next.piece.spelling; rest = c.in-Some-replacement_of.body } in
    let f = frame_of top in
    let p = cut_of next.piece in
    let r = cuts_of c.in-Some-next_of.others.now in
    let body = cuts_of c.in-Some-replacement_of.body.now in
    let f1 = frame_of others in
    let g = frame_of new in
    let inner = fs ++ f1 ∷ [] in
    let taken = frames_push c.args.stack.now c.pop.new.self (c.in-Some.number, top) c.in-Some.ensures.taken in
    let mid = frames_push c.push.new.self c.pop.new.self (c.in-Some.number, others) c.in_ok-push.ensures.ok in
    let begins = ap cuts_of c.in-Some-next_of.ensures in
    let popped = open_pop w c.args.stack.now c.pop.new.self (c.in-Some.number, top) c.in-Some.ensures.taken c.requires.numbered in
    let numbered = next_numbered w next c.in-Some-next_of.others.now c.in-Some.top.rest.now c.in-Some-next_of.ensures popped.1.1 in
    let pushed = open_push w c.push.new.self c.pop.new.self (c.in-Some.number, others) c.in_ok-push.ensures.ok popped.0 (popped.1.0, numbered.1) in
    let replaces = ap (λ st. replacement ms (names_of st) p) (sym mid) ∙ sym (c.in-Some-replacement_of.ensures.body w c.requires.defined pushed numbered.0) in
    let was = ap (λ xs. settle s (pending n ms [] o xs)) taken in
    elim (cases_eq c.args.out.now.room.replacements 0) [
      | inl none ↦
          refuses c.begin.result s t (replaced o ∷ []) (Refused TooManyReplacements o.place) _ _
          (was ∙ next_refused ms o n fs f p r begins s body replaces none) (no_room s o none) c.begin.ensures.settles
      | inr some ↦
          let size = ap length c.in-Some.ensures.taken ∙ length-append c.pop.new.self.frames.entries ((c.in-Some.number, top) ∷ []) in
          let deep : length fs + 1 < n = omega (arith, size, length-map c.pop.new.self.frames.entries (λ e. frame_of e.1), h, some) in
          let after = on_ok_weaker c.begin.result
          (λ e. ap (λ xs. settle t (pending n ms [] o xs)) (frames_push c.begin.new.stack c.push.new.self (next.number, new) e ∙ ap (λ xs. xs ++ g ∷ []) mid)) c.begin.ensures.frames in
          follows c.begin.result s t (replaced o ∷ []) (pending n ms [] o (inner ++ g ∷ [])) _ _
          (was ∙ ap (settle s) (next_some ms o n fs f p r begins body replaces deep)) after c.begin.ensures.settles
    ]

pub returns-in-Some-replacement_of-clause-less : goal.returns-in-Some-replacement_of-clause-less
returns-in-Some-replacement_of-clause-less c =
    let shorter = ap length c.in-Some-next_of.ensures in
    let small = c.in-Some-replacement_of.ensures.small in
    let rest = c.in-Some.top.rest.now in
    let others = c.in-Some-next_of.others.now in
    let body = c.in-Some-replacement_of.body.now in
    let next = c.in-Some-next_of.next in
    let top = c.in-Some.top in
    let left : OpenReplacement = record { name = c.in-Some.top.name; rest = c.in-Some-next_of.others } in
    let new : OpenReplacement = record { name = next.piece.spelling; rest = c.in-Some-replacement_of.body } in
    both_ok c.begin.result
    (λ fewer e. work_begin c.args.out.now.room.replacements c.begin.new.out.room.replacements (frames_of c.args.stack.now) (frames_of c.pop.new.self)
    (frames_of c.push.new.self) (frames_of c.begin.new.stack) (frame_of top) (frame_of left) (frame_of new)
    (frames_push c.args.stack.now c.pop.new.self (c.in-Some.number, top) c.in-Some.ensures.taken)
    (frames_push c.push.new.self c.pop.new.self (c.in-Some.number, left) c.in_ok-push.ensures.ok)
    (frames_push c.begin.new.stack c.push.new.self (next.number, new) e) fewer
    (omega (arith, shorter, length-map rest (λ p. cut_of p.piece), length-map others (λ p. cut_of p.piece))) (omega (arith, small, length-map body (λ p. cut_of p.piece))))
    c.begin.ensures.left c.begin.ensures.frames

pub returns-in-Some-replacement_of-clause-numbered : goal.returns-in-Some-replacement_of-clause-numbered
returns-in-Some-replacement_of-clause-numbered c =
    let w = c.args.numbers.now in
    let next = c.in-Some-next_of.next in
    let top = c.in-Some.top in
    let others : OpenReplacement = record { name = c.in-Some.top.name; rest = c.in-Some-next_of.others } in
    let new : OpenReplacement = record { name = next.piece.spelling; rest = c.in-Some-replacement_of.body } in
    let popped = open_pop w c.args.stack.now c.pop.new.self (c.in-Some.number, top) c.in-Some.ensures.taken c.requires.numbered in
    let numbered = next_numbered w next c.in-Some-next_of.others.now c.in-Some.top.rest.now c.in-Some-next_of.ensures popped.1.1 in
    let pushed = open_push w c.push.new.self c.pop.new.self (c.in-Some.number, others) c.in_ok-push.ensures.ok popped.0 (popped.1.0, numbered.1) in
    on_ok_weaker c.begin.result
    (λ e. open_push w c.begin.new.stack c.push.new.self (next.number, new) e pushed
    (c.in-Some-replacement_of.ensures.named w numbered.0, c.in-Some-replacement_of.ensures.numbered w c.requires.defined))
    c.begin.ensures.frames

pub returns-in-None-clause-settles : goal.returns-in-None-clause-settles
returns-in-None-clause-settles c = λ n h.
    let w = c.args.numbers.now in
    let ms = definitions_of c.args.macros.now in
    let o = cut_of c.args.origin in
    let s = state_of c.args.out.now in
    let t = state_of c.take.new.self in
    let fs = frames_of c.pop.new.self in
    let top = c.in-Some.top in
    let next = c.in-Some-next_of.next in
    let others : OpenReplacement = record { name = c.in-Some.top.name; rest = c.in-Some-next_of.others } in
    let p = cut_of next.piece in
    let r = cuts_of c.in-Some-next_of.others.now in
    let inner = fs ++ frame_of others ∷ [] in
    let taken = frames_push c.args.stack.now c.pop.new.self (c.in-Some.number, top) c.in-Some.ensures.taken in
    let mid = frames_push c.push.new.self c.pop.new.self (c.in-Some.number, others) c.in_ok-push.ensures.ok in
    let begins = ap cuts_of c.in-Some-next_of.ensures in
    let popped = open_pop w c.args.stack.now c.pop.new.self (c.in-Some.number, top) c.in-Some.ensures.taken c.requires.numbered in
    let numbered = next_numbered w next c.in-Some-next_of.others.now c.in-Some.top.rest.now c.in-Some-next_of.ensures popped.1.1 in
    let pushed = open_push w c.push.new.self c.pop.new.self (c.in-Some.number, others) c.in_ok-push.ensures.ok popped.0 (popped.1.0, numbered.1) in
    let remains = ap (λ st. replacement ms (names_of st) p) (sym mid) ∙ sym (c.in-None.ensures.body w c.requires.defined pushed numbered.0) in
    follows c.take.result s t (items_of p o) (pending n ms [] o inner) _ _
    (ap (λ xs. settle s (pending n ms [] o xs)) taken ∙ ap (settle s) (next_none ms o n fs (frame_of top) p r begins remains))
    (always c.take.result (ap (λ xs. settle t (pending n ms [] o xs)) mid)) c.take.ensures.settles

pub returns-in-None-clause-less : goal.returns-in-None-clause-less
returns-in-None-clause-less c =
    let shorter = ap length c.in-Some-next_of.ensures in
    let rest = c.in-Some.top.rest.now in
    let others = c.in-Some-next_of.others.now in
    let top = c.in-Some.top in
    let left : OpenReplacement = record { name = c.in-Some.top.name; rest = c.in-Some-next_of.others } in
    let falls = work_take c.args.out.now.room.replacements (frames_of c.args.stack.now) (frames_of c.pop.new.self) (frames_of c.push.new.self) (frame_of top) (frame_of left)
    (frames_push c.args.stack.now c.pop.new.self (c.in-Some.number, top) c.in-Some.ensures.taken)
    (frames_push c.push.new.self c.pop.new.self (c.in-Some.number, left) c.in_ok-push.ensures.ok)
    (omega (arith, shorter, length-map rest (λ p. cut_of p.piece), length-map others (λ p. cut_of p.piece))) in
    on_ok_weaker c.take.result (λ same. rw same falls) c.take.ensures.left

pub returns-in-None-clause-numbered : goal.returns-in-None-clause-numbered
returns-in-None-clause-numbered c =
    let w = c.args.numbers.now in
    let top = c.in-Some.top in
    let others : OpenReplacement = record { name = c.in-Some.top.name; rest = c.in-Some-next_of.others } in
    let popped = open_pop w c.args.stack.now c.pop.new.self (c.in-Some.number, top) c.in-Some.ensures.taken c.requires.numbered in
    let numbered = next_numbered w c.in-Some-next_of.next c.in-Some-next_of.others.now c.in-Some.top.rest.now c.in-Some-next_of.ensures popped.1.1 in
    always c.take.result (open_push w c.push.new.self c.pop.new.self (c.in-Some.number, others) c.in_ok-push.ensures.ok popped.0 (popped.1.0, numbered.1))
