use Rattle.std.proofs.Common.{◌≡◌, ℕ, ◌^◌, ◌<◌, List, ◌++◌, ap, sym, ◌∙◌, append_assoc, arith}
use Rattle.std.proofs.lemmas.Result.{on_ok_weaker}
use Rattle.dae_encode.specs.declared.Inst.{Inst}
use Rattle.dae_select_blocks.specs.Blocks.{compare_code, fetch, source}
use Rattle.dae_select_values.specs.Tables.{home_by}
use Rattle.dae_select.proofs.Untaken.{once_first, once_second, test_of_first, test_of_number, test_of_second}
use Rattle.dae_select.proofs.pairing.taken_test.Goals as goal

pub returns-in-Some : goal.returns-in-Some
returns-in-Some c =
    let a = c.args in let h = home_by a.homes in let v = a.taken.variable in let test = a.test in
    let low : v < 2 ^ 32 = omega arith in
    let own = sym c.is_variable.ensures ∙ c.if-is_variable.true in
    on_ok_weaker c.compare_number.result
    (λ e. e ∙ ap (λ (is : List Inst). a.code.now.items ++ is) (sym (test_of_number h v a.taken.queue low a.taken.target test.comparison test.left test.right c.in-Some.number own (sym c.number_beside.ensures ∙ c.in-Some.is))))
    c.compare_number.ensures

pub returns-in_ok-fetch-in-None : goal.returns-in_ok-fetch-in-None
returns-in_ok-fetch-in-None c =
    let a = c.args in let h = home_by a.homes in let v = a.taken.variable in let q = a.taken.queue in let test = a.test in
    let low : v < 2 ^ 32 = omega arith in
    let own = sym c.is_variable.ensures ∙ c.if-is_variable.true in
    let other = once_first _ _ own c.requires.once in
    let r : c.source-right.result ≡ source h 6 test.right = c.source-right.ensures in
    let fetched : c.fetch.new.code.items ≡ a.code.now.items ++ fetch h 6 test.right = c.in_ok-fetch-in-None.ensures in
    on_ok_weaker c.compare.result
    (λ e. e ∙ ap (λ (x : ℕ). c.fetch.new.code.items ++ compare_code test.comparison a.taken.target q x) r
    ∙ ap (λ (is : List Inst). is ++ compare_code test.comparison a.taken.target q (source h 6 test.right)) fetched
    ∙ append_assoc a.code.now.items (fetch h 6 test.right) (compare_code test.comparison a.taken.target q (source h 6 test.right))
    ∙ ap (λ (is : List Inst). a.code.now.items ++ is) (sym (test_of_first h v q low a.taken.target test.comparison test.left test.right own other (sym c.number_beside.ensures ∙ c.in-None.is))))
    c.compare.ensures

pub returns-in_ok-fetch : goal.returns-in_ok-fetch
returns-in_ok-fetch c =
    let a = c.args in let h = home_by a.homes in let v = a.taken.variable in let q = a.taken.queue in let test = a.test in
    let low : v < 2 ^ 32 = omega arith in
    let other = sym c.is_variable.ensures ∙ c.if-is_variable.false in
    let own = once_second _ _ other c.requires.once in
    let r : c.source-left.result ≡ source h 5 test.left = c.source-left.ensures in
    let fetched : c.fetch-else-is_variable.new.code.items ≡ a.code.now.items ++ fetch h 5 test.left = c.in_ok-fetch.ensures in
    on_ok_weaker c.compare-else-is_variable.result
    (λ e. e ∙ ap (λ (x : ℕ). c.fetch-else-is_variable.new.code.items ++ compare_code test.comparison a.taken.target x q) r
    ∙ ap (λ (is : List Inst). is ++ compare_code test.comparison a.taken.target (source h 5 test.left) q) fetched
    ∙ append_assoc a.code.now.items (fetch h 5 test.left) (compare_code test.comparison a.taken.target (source h 5 test.left) q)
    ∙ ap (λ (is : List Inst). a.code.now.items ++ is) (sym (test_of_second h v q low a.taken.target test.comparison test.left test.right other own)))
    c.compare-else-is_variable.ensures
