-- For those who make images: line marks that are added one by one. And bytes spell at most one image.
use Rattle.std.proofs.Common.{◌≡◌, true, List, [], ◌∷◌, ◌++◌, Option, Some, refl}
use Rattle.std.specs.List.{last_or}
use Rattle.std.proofs.lemmas.Bool.{and_parts, and_from}
use Rattle.dae_image.specs.declared.LineMark.{LineMark}
use Rattle.dae_image.specs.declared.header.ImageHeader.{ImageHeader}
use Rattle.dae_image.specs.Contents.{is_line, are_lines}

pub are_lines-push : (h : ImageHeader) (last : Option LineMark) (ms : List LineMark) (m : LineMark) → are_lines h last ms ≡ true → is_line h (last_or last ms) m ≡ true → are_lines h last (ms ++ m ∷ []) ≡ true
are_lines-push h last [] m good next = and_from (is_line h last m) true next refl
are_lines-push h last (x ∷ xs) m good next =
    let parts = and_parts (is_line h last x) (are_lines h (Some x) xs) good in
    and_from (is_line h last x) (are_lines h (Some x) (xs ++ m ∷ [])) parts.0 (are_lines-push h (Some x) xs m parts.1 next)
