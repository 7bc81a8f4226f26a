use Rattle.std.proofs.Common.{◌≡◌, ℕ, List, [], ◌∷◌, ◌++◌, codes, ap, ◌∙◌}
use Rattle.std.specs.List.{flat_map}
use Rattle.dae_image.specs.declared.LineMark.{LineMark}
use Rattle.dae_image.specs.Images.{contents}
use Rattle.dae_listing.specs.Canon.{ended, row, word_text, content_rows, mark_row}
use Rattle.dae_listing.proofs.Parts.{whole}
use Rattle.dae_listing.proofs.disassemble.Goals as goal

pub returns : goal.returns
returns c =
    let v1 = c.put_head.new.out.items in
    let v2 = c.put_code.new.out.items in
    let v3 = c.put_code-2.new.out.items in
    let v4 = c.put_content.new.out.items in
    let v5 = c.put_marks.new.out.items in
    whole (contents c.args.image.now) c.new-out.result.items v1 v2 v3 v4 v5 c.put_names.new.out.items
    c.new-out.ensures.items
    c.in_ok-put_head.ensures
    (c.in_ok-put_code.ensures ∙ ap (λ (xs : List ℕ). v1 ++ (ended (codes ".a") ++ flat_map (λ w. ended (word_text w)) xs)) c.as_slice.ensures)
    (c.in_ok-put_code-2.ensures ∙ ap (λ (xs : List ℕ). v2 ++ (ended (codes ".e") ++ flat_map (λ w. ended (word_text w)) xs)) c.as_slice-2.ensures)
    (c.in_ok-put_content.ensures ∙ ap (λ (xs : List ℕ). v3 ++ (ended (codes ".data") ++ flat_map ended (content_rows xs))) c.as_slice-3.ensures)
    (c.in_ok-put_marks.ensures ∙ ap (λ (xs : List LineMark). v4 ++ flat_map (λ m. ended (mark_row m)) xs) c.as_slice-4.ensures)
    (c.in_ok-put_names.ensures ∙ ap (λ (xs : List (List ℕ)). v5 ++ flat_map (λ n. ended (row (codes ".name") n)) xs) c.as_slice-5.ensures)
