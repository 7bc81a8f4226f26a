use Rattle.std.proofs.Common.{◌≡◌, ℕ, ◌<◌, ◌≤◌, List, [], ◌∷◌, ◌++◌, take, length, codes, ap, ◌∙◌, append_assoc, arith}
use Rattle.std.specs.List.{flat_map}
use Rattle.std.proofs.lemmas.Result.{on_ok_weaker}
use Rattle.dae_listing.specs.Canon.{ended, row, content_rows}
use Rattle.dae_listing.proofs.Parts.{line_behind, last_behind, some_left}
use Rattle.dae_listing.proofs.put_content.Goals as goal

pub loop-rest-preserved : goal.loop-rest-preserved
loop-rest-preserved c =
    let bytes = c.loop-rest.rest.now in
    let old = c.loop-rest.out.items in
    let new = c.put_byte_line.new.out.items in
    let some : 16 ≤ length bytes = omega arith in
    let put : new ≡ old ++ ended (row (codes ".byte") (take 16 bytes)) =
    c.in_ok-put_byte_line.ensures ∙ ap (λ (front : List ℕ). old ++ ended (row (codes ".byte") front)) c.split_at.ensures.front in
    ap (λ (rest : List ℕ). new ++ flat_map ended (content_rows rest)) c.split_at.ensures.back
    ∙ line_behind old new bytes some put ∙ c.loop-rest.invariant

pub returns : goal.returns
returns c =
    let bytes = c.loop-rest.rest.now in
    let some = some_left bytes c.if-is_empty.ensures in
    let few : length bytes < 16 = omega arith in
    let content : List ℕ = flat_map ended (content_rows c.args.content.now) in
    let old = c.loop-rest.out.items in
    let new = c.put_byte_line-2.new.out.items in
    let weaker : new ≡ old ++ ended (row (codes ".byte") bytes) → new ≡ c.args.out.now.items ++ (ended (codes ".data") ++ content) =
    λ put. last_behind old new bytes some few put ∙ c.loop-rest.invariant
    ∙ ap (λ (front : List ℕ). front ++ content) c.in_ok-put_line.ensures
    ∙ append_assoc c.args.out.now.items (ended (codes ".data")) content in
    on_ok_weaker c.put_byte_line-2.result weaker c.put_byte_line-2.ensures
