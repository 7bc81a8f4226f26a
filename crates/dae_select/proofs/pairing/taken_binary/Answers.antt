use Rattle.std.proofs.Common.{◌≡◌, ℕ, ◌^◌, ◌<◌, List, [], ◌∷◌, ◌++◌, ap, sym, ◌∙◌, append_assoc, arith}
use Rattle.std.proofs.lemmas.Result.{on_ok_weaker}
use Rattle.dae_encode.specs.declared.Inst.{Inst}
use Rattle.dae_select_blocks.specs.Blocks.{fetch, operation_code, source}
use Rattle.dae_select_values.specs.Tables.{home_by}
use Rattle.dae_select.proofs.Untaken.{once_first, once_second, operation_of_first, operation_of_second, where_ok}
use Rattle.dae_select.proofs.pairing.taken_binary.Goals as goal

pub returns-in_ok-fetch-in-None : goal.returns-in_ok-fetch-in-None
returns-in_ok-fetch-in-None c =
    let a = c.args in let h = home_by a.homes in let v = a.taken.variable in let q = a.taken.queue in let t = a.taken.target in
    let low : v < 2 ^ 32 = omega arith in
    let own = sym c.is_variable.ensures ∙ c.if-is_variable.true in
    let other = once_first _ _ own c.requires.once in
    let i : c.operation.result ≡ operation_code a.operator t q c.source-right.result = c.operation.ensures in
    let r : c.source-right.result ≡ source h 6 a.right = c.source-right.ensures in
    let fetched : c.fetch.new.code.items ≡ a.code.now.items ++ fetch h 6 a.right = c.in_ok-fetch-in-None.ensures in
    on_ok_weaker c.extend_from_slice-in-None.result
    (λ e. e ∙ ap (λ (x : Inst). c.fetch.new.code.items ++ x ∷ []) (i ∙ ap (λ (x : ℕ). operation_code a.operator t q x) r)
    ∙ ap (λ (is : List Inst). is ++ operation_code a.operator t q (source h 6 a.right) ∷ []) fetched
    ∙ append_assoc a.code.now.items (fetch h 6 a.right) (operation_code a.operator t q (source h 6 a.right) ∷ [])
    ∙ ap (λ (is : List Inst). a.code.now.items ++ is) (sym (operation_of_first h v q low t a.operator a.left a.right own other (sym c.beside_right.ensures ∙ c.in-None.is))))
    (where_ok c.extend_from_slice-in-None.result _ _ _ c.extend_from_slice-in-None.ensures.items)

pub returns-in_ok-fetch-in-None-beside_left : goal.returns-in_ok-fetch-in-None-beside_left
returns-in_ok-fetch-in-None-beside_left c =
    let a = c.args in let h = home_by a.homes in let v = a.taken.variable in let q = a.taken.queue in let t = a.taken.target in
    let low : v < 2 ^ 32 = omega arith in
    let other = sym c.is_variable.ensures ∙ c.if-is_variable.false in
    let own = once_second _ _ other c.requires.once in
    let i : c.operation-in-None-beside_left.result ≡ operation_code a.operator t c.source-left.result q = c.operation-in-None-beside_left.ensures in
    let r : c.source-left.result ≡ source h 5 a.left = c.source-left.ensures in
    let fetched : c.fetch-in-None-beside_left.new.code.items ≡ a.code.now.items ++ fetch h 5 a.left = c.in_ok-fetch-in-None-beside_left.ensures in
    on_ok_weaker c.extend_from_slice-in-None-beside_left.result
    (λ e. e ∙ ap (λ (x : Inst). c.fetch-in-None-beside_left.new.code.items ++ x ∷ []) (i ∙ ap (λ (x : ℕ). operation_code a.operator t x q) r)
    ∙ ap (λ (is : List Inst). is ++ operation_code a.operator t (source h 5 a.left) q ∷ []) fetched
    ∙ append_assoc a.code.now.items (fetch h 5 a.left) (operation_code a.operator t (source h 5 a.left) q ∷ [])
    ∙ ap (λ (is : List Inst). a.code.now.items ++ is) (sym (operation_of_second h v q low t a.operator a.left a.right other own (sym c.beside_left.ensures ∙ c.in-None-beside_left.is))))
    (where_ok c.extend_from_slice-in-None-beside_left.result _ _ _ c.extend_from_slice-in-None-beside_left.ensures.items)
