use Rattle.std.proofs.Common.{◌++◌, [], ◌∷◌, length, map, ap, sym, subst, ◌∙◌, arith}
use Rattle.std.proofs.lemmas.List.{nil_from_length}
use Rattle.std.proofs.lemmas.List.Elements.{All-same}
use Rattle.std.proofs.lemmas.Bool.{eqb-true}
use Rattle.std.specs.Global.{Vec}
use Rattle.dae_tree.specs.Replacing.{replacement}
use Rattle.dae_lex.specs.declared.replace.OpenReplacement.{OpenReplacement}
use Rattle.dae_lex.specs.declared.output.ReadToken.{ReadToken}
use Rattle.dae_lex_scan.specs.Cuts.{cut_of}
use Rattle.dae_lex.specs.Numbers.{cuts_of, definitions_of}
use Rattle.dae_lex.specs.Settling.{IsMeant, Settles, state_of, settle}
use Rattle.dae_lex.specs.Pending.{pending, frame_of, names_of}
use Rattle.dae_lex.proofs.Found.{frames_push, none_open, open_push}
use Rattle.dae_lex.proofs.Turns.{opened, all_over, begin_fails, expand_none}
use Rattle.dae_lex.proofs.replace.replace_piece.Goals as goal

pub loop-stack-init : goal.loop-stack-init
loop-stack-init c =
    let w = c.args.numbers.now in
    let first = c.args.first in
    let new : OpenReplacement = record { name = first.piece.spelling; rest = c.in-Some.body } in
    let none = none_open w c.new-stack.result c.new-stack.ensures in
    let frames = frames_push c.begin.new.stack c.new-stack.result (first.number, new) c.in-Ok.ensures.frames ∙ ap (λ fs. fs ++ frame_of new ∷ []) none.0 in
    let left = c.in-Ok.ensures.left in
    record {
      depth = omega (arith, left, ap length (c.in-Ok.ensures.frames ∙ ap (λ es. es ++ (first.number, new) ∷ []) c.new-stack.ensures));
      so_far = λ n h.
          let ms = definitions_of c.args.macros.now in
          let p = cut_of first.piece in
          let t = state_of c.begin.new.out in
          let replaces = ap (λ st. replacement ms (names_of st) p) (sym none.0) ∙ sym (c.in-Some.ensures.body w c.requires.defined none.1 c.requires.numbered) in
          ap (λ fs. settle t (pending n ms [] p fs)) frames
          ∙ opened ms p (cuts_of c.in-Some.body.now) (state_of c.args.out.now) t n replaces c.in-Ok.ensures.settles (omega (arith, left));
      numbered = open_push w c.begin.new.stack c.new-stack.result (first.number, new) c.in-Ok.ensures.frames none.1
          (c.in-Some.ensures.named w c.requires.numbered, c.in-Some.ensures.numbered w c.requires.defined);
      read = All-same (λ (t : ReadToken). IsMeant w t.meaning) _ _ (ap (λ (v : Vec ReadToken). v.items) c.in-Ok.ensures.tokens) c.requires.read;
    }

pub returns-in-Err-clause-settles : goal.returns-in-Err-clause-settles
returns-in-Err-clause-settles c = λ n h.
    let w = c.args.numbers.now in
    let ms = definitions_of c.args.macros.now in
    let p = cut_of c.args.first.piece in
    let none = none_open w c.new-stack.result c.new-stack.ensures in
    let replaces = ap (λ st. replacement ms (names_of st) p) (sym none.0) ∙ sym (c.in-Some.ensures.body w c.requires.defined none.1 c.requires.numbered) in
    begin_fails c.in-Err.e ms p (cuts_of c.in-Some.body.now) (state_of c.args.out.now) n replaces h c.in-Err.ensures.settles

pub returns-clause-settles : goal.returns-clause-settles
returns-clause-settles c = λ n h.
    let l = c.loop-stack in
    let ms = definitions_of c.args.macros.now in
    let p = cut_of c.args.first.piece in
    let t = state_of l.out in
    let empty = eqb-true _ _ (sym c.loop-stack-test.ensures) in
    let none = ap (map (λ e. frame_of e.1)) (nil_from_length l.stack.frames.entries (omega (arith, empty))) in
    sym (l.invariant.so_far n h) ∙ ap (λ fs. settle t (pending n ms [] p fs)) none ∙ all_over ms p t n

pub returns-in_default-clause-settles : goal.returns-in_default-clause-settles
returns-in_default-clause-settles c = λ n h.
    let w = c.args.numbers.now in
    let ms = definitions_of c.args.macros.now in
    let p = cut_of c.args.first.piece in
    let none = none_open w c.new-stack.result c.new-stack.ensures in
    let remains = ap (λ st. replacement ms (names_of st) p) (sym none.0) ∙ sym (c.in_default.ensures.body w c.requires.defined none.1 c.requires.numbered) in
    subst (λ xs. Settles (state_of c.take.new.self) c.take.result (settle (state_of c.args.out.now) xs)) (sym (expand_none ms p n [] p remains)) c.take.ensures.settles
