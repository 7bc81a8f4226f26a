use Rattle.std.proofs.Common.{◌≡◌, ℕ, List, ◌++◌, length, map, ap, sym, subst, ◌∙◌, arith}
use Rattle.std.specs.List.{AllByRecursion}
use Rattle.std.proofs.lemmas.List.{length-map}
use Rattle.dae_encode.specs.Spelling.{InRange, encoded}
use Rattle.dae_encode.specs.declared.Inst.{Inst}
use Rattle.dae_select_calls.specs.Layouts.{plan_of, variables_of}
use Rattle.dae_select.specs.declared.growing.PlacedWord.{PlacedWord}
use Rattle.dae_link.specs.Sides.{HasUsesOf, IsCodeOf, at_places, code_at, opening_by, places_by}
use Rattle.dae_link.proofs.Settling.{private_within}
use Rattle.dae_link.proofs.Sizes.{functions_some, too_many_places}
use Rattle.dae_link.proofs.Sided.{code_fits, code_long, code_short, code_made}
use Rattle.dae_link.proofs.Registers.{registers_placed}
use Rattle.dae_link.proofs.Used.{code_used}
use Rattle.dae_link.proofs.side.side_code.Goals as goal

pub encode_all-requires : goal.encode_all-requires
encode_all-requires c =
    subst (λ (is : List Inst). AllByRecursion InRange is) (sym (c.as_slice.ensures.value ∙ c.in_ok-code.ensures.code)) (code_fits c.args.stream.now c.in_ok-layouts.layouts c.in_ok-layouts.ensures.layouts)

pub returns-then-len-clause-err : goal.returns-then-len-clause-err
returns-then-len-clause-err c = λ same. (let t = c.if-len.true in let l = c.len.ensures in let s = functions_some c.args.stream.now.functions in omega arith)

pub returns-then-not-are_numberable-clause-err : goal.returns-then-not-are_numberable-clause-err
returns-then-not-are_numberable-clause-err c = λ same. too_many_places c.args.stream.now (sym c.are_numberable.ensures ∙ c.if-not-are_numberable.true)

pub settled_layouts-requires-clause-numberable : goal.settled_layouts-requires-clause-numberable
settled_layouts-requires-clause-numberable c = sym c.are_numberable.ensures ∙ c.if-not-are_numberable.false

pub returns-clause-code : goal.returns-clause-code
returns-clause-code c =
    let stream = c.args.stream.now in let all = c.in_ok-layouts.layouts in
    let words : c.from_vec.result ≡ map encoded (code_at stream all) = c.from_vec.ensures ∙ c.in_ok-encode_all.ensures.words ∙ ap (map encoded) (c.as_slice.ensures.value ∙ c.in_ok-code.ensures.code) in
    subst (λ (ws : List ℕ). IsCodeOf stream ws all.private) (sym words) (code_made stream all c.in_ok-layouts.ensures.layouts c.in_ok-code.ensures.ends c.requires c.in_ok-layouts.ensures.reached)

pub returns-clause-few : goal.returns-clause-few
returns-clause-few c =
    let stream = c.args.stream.now in let all = c.in_ok-layouts.layouts in
    let words : c.from_vec.result ≡ map encoded (code_at stream all) = c.from_vec.ensures ∙ c.in_ok-encode_all.ensures.words ∙ ap (map encoded) (c.as_slice.ensures.value ∙ c.in_ok-code.ensures.code) in
    let long = ap length words ∙ length-map (code_at stream all) encoded ∙ code_long stream all c.in_ok-layouts.ensures.layouts in
    let ends = c.in_ok-code.ensures.ends in
    omega arith

pub returns-clause-short : goal.returns-clause-short
returns-clause-short c =
    let stream = c.args.stream.now in let all = c.in_ok-layouts.layouts in
    let words : c.from_vec.result ≡ map encoded (code_at stream all) = c.from_vec.ensures ∙ c.in_ok-encode_all.ensures.words ∙ ap (map encoded) (c.as_slice.ensures.value ∙ c.in_ok-code.ensures.code) in
    let long = ap length words ∙ length-map (code_at stream all) encoded ∙ code_long stream all c.in_ok-layouts.ensures.layouts in
    let short = code_short stream all c.in_ok-layouts.ensures.layouts in
    omega arith

pub returns-clause-frames : goal.returns-clause-frames
returns-clause-frames c = private_within c.args.stream.now c.in_ok-layouts.layouts c.in_ok-layouts.ensures.layouts

pub returns-clause-uses : goal.returns-clause-uses
returns-clause-uses c =
    let stream = c.args.stream.now in let all = c.in_ok-layouts.layouts in
    let words : c.from_vec.result ≡ map encoded (code_at stream all) = c.from_vec.ensures ∙ c.in_ok-encode_all.ensures.words ∙ ap (map encoded) (c.as_slice.ensures.value ∙ c.in_ok-code.ensures.code) in
    subst (λ (ws : List ℕ). HasUsesOf stream ws) (sym words) (code_used stream all c.in_ok-layouts.ensures.layouts)

pub returns-clause-places : goal.returns-clause-places
returns-clause-places c =
    let stream = c.args.stream.now in let all = c.in_ok-layouts.layouts in
    record {
      all = at_places stream all;
      code = c.from_vec.ensures ∙ c.in_ok-encode_all.ensures.words ∙ ap (map encoded) (c.as_slice.ensures.value ∙ c.in_ok-code.ensures.code);
      begins = c.in_ok-code.ensures.places ∙ ap (λ (ps : List PlacedWord). ps ++ places_by (at_places stream all) stream) c.new-places.ensures.items;
    }

pub returns-clause-registers : goal.returns-clause-registers
returns-clause-registers c =
    let stream = c.args.stream.now in let all = c.in_ok-layouts.layouts in let unplaced = c.in_ok-layouts.ensures.layouts in
    record {
      all = at_places stream all;
      code = c.from_vec.ensures ∙ c.in_ok-encode_all.ensures.words ∙ ap (map encoded) (c.as_slice.ensures.value ∙ c.in_ok-code.ensures.code);
      each = registers_placed (plan_of all) (variables_of all) (length (opening_by all stream)) 0 stream.functions all.functions unplaced.functions;
    }
