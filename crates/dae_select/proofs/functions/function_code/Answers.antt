use Rattle.std.proofs.Common.{◌≡◌, ℕ, Bool, ◌+◌, ◌++◌, List, length, ap, sym, subst, ◌∙◌, length-append, arith}
use Rattle.dae_encode.specs.declared.Inst.{Inst}
use Rattle.dae_ir.specs.Streams.{actions_of}
use Rattle.dae_select_walks.specs.Live.{nowhere}
use Rattle.dae_select_walks.specs.Facts.{unknown}
use Rattle.dae_select_blocks.specs.Code.{entry_code}
use Rattle.dae_select.specs.Grown.{Grown, from_front, StandWithin}
use Rattle.dae_select.specs.declared.growing.PlacedWord.{PlacedWord}
use Rattle.dae_select_walks.specs.declared.VariableStanding.TheVariants.{Settled}
use Rattle.dae_select.specs.Growing.{marked_code}
use Rattle.dae_select_blocks.specs.Sizes.{is_short}
use Rattle.dae_select_calls.specs.Layouts.{plan_of, variables_of}
use Rattle.dae_select.proofs.InFront.{same_code}
use Rattle.dae_select.proofs.Words.{front_within, wider}
use Rattle.dae_select.proofs.functions.function_code.Goals as goal

pub returns-clause-code : goal.returns-clause-code
returns-clause-code c =
    let a = c.args in
    let P = plan_of a.layouts.now in let V = variables_of a.layouts.now in let f = a.function in
    let first = c.in_ok-prologue_code.ensures ∙ ap (λ (l : List Inst). l ++ entry_code P f) c.new-code.ensures.items in
    let middle = c.as_slice.ensures.value ∙ c.into_vec.ensures ∙ ap (λ (g : Grown). g.code) c.in_ok-body_code.ensures
    ∙ ap (λ (b : Bool). (marked_code b P V f Settled unknown (actions_of a.body.now) nowhere 0 0).code) c.jumps_in.ensures ∙ same_code (is_short (actions_of a.body.now)) P V f Settled unknown (actions_of a.body.now) nowhere 0 0 in
    c.in_ok-extend_from_slice.ensures.items ∙ ap (λ (l : List Inst). l ++ c.as_slice.result.now) first ∙ ap (λ (l : List Inst). entry_code P f ++ l) middle

pub returns-clause-entry : goal.returns-clause-entry
returns-clause-entry c =
    let a = c.args in
    let first = c.in_ok-prologue_code.ensures ∙ ap (λ (l : List Inst). l ++ entry_code (plan_of a.layouts.now) a.function) c.new-code.ensures.items in
    let l = c.len-entry.ensures in
    let long : c.len-entry.result ≡ length c.prologue_code.new.code.items = omega arith in
    long ∙ ap length first

pub returns-clause-places : goal.returns-clause-places
returns-clause-places c =
    let a = c.args in
    let P = plan_of a.layouts.now in let V = variables_of a.layouts.now in let f = a.function in
    let actions = marked_code (is_short (actions_of a.body.now)) P V f Settled unknown (actions_of a.body.now) nowhere 0 0 in
    let first = c.in_ok-prologue_code.ensures ∙ ap (λ (l : List Inst). l ++ entry_code P f) c.new-code.ensures.items in
    let l = c.len-entry.ensures in
    let long : c.len-entry.result ≡ length c.prologue_code.new.code.items = omega arith in
    c.in_ok-places.ensures ∙ ap (λ (g : Grown). from_front (c.len-entry.result + length g.code) g.places) c.in_ok-body_code.ensures
    ∙ ap (λ (b : Bool). (let g = marked_code b P V f Settled unknown (actions_of a.body.now) nowhere 0 0 in from_front (c.len-entry.result + length g.code) g.places)) c.jumps_in.ensures
    ∙ ap (λ (n : ℕ). from_front (n + length actions.code) actions.places) (long ∙ ap length first)

pub returns-clause-within : goal.returns-clause-within
returns-clause-within c =
    let body = c.body_code.new.code in
    let words = c.prologue_code.new.code.items in let all = c.extend_from_slice.new.self.items in
    let end = c.len-entry.result + length body.code in
    let l = c.len-entry.ensures in
    let entry : c.len-entry.result ≡ length words = omega arith in
    let actions = ap length (c.as_slice.ensures.value ∙ c.into_vec.ensures) in
    let behind = ap length c.in_ok-extend_from_slice.ensures.items ∙ length-append words c.as_slice.result.now in
    subst (λ (ps : List PlacedWord). StandWithin (length all) ps) (sym c.in_ok-places.ensures)
    (wider end (length all) (from_front end body.places) (omega (arith, entry, actions, behind)) (front_within end body.places))
