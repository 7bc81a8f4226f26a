-- A form whose variables are renamed by webs is as well made as before.
use Rattle.std.proofs.Common.{◌≡◌, ℕ, ◌<◌, ◌≤◌, Bool, true, false, List, [], ◌∷◌, length, Option, Some, refl, ap, sym, ◌∙◌, subst}
use Rattle.std.specs.Prelude.{slice_get}
use Rattle.std.specs.List.{AllByRecursion}
use Rattle.dae_ir.specs.Code.{Done, Do, If, Loop, Each}
use Rattle.dae_ir.specs.Form.{Form}
use Rattle.dae_ir.specs.Rounds.{is_jump, stays}
use Rattle.dae_ir.specs.Scope.{IsIn, IsTarget, TestIn, ValueIn, ItemIn, TakesArguments, is_return, is_end, closes, never_returns}
use Rattle.dae_ir.specs.declared.form.Operand.{Operand}
use Rattle.dae_ir.specs.declared.form.Operand.TheVariants.{Variable, Number}
use Rattle.dae_ir.specs.declared.form.Value.{Value}
use Rattle.dae_ir.specs.declared.form.Value.TheVariants as val
use Rattle.dae_ir.specs.declared.form.Test.{Test}
use Rattle.dae_ir.specs.declared.form.Check.TheVariants.{Place as Good, InBounds, Zero, Room, Frame, Abort}
use Rattle.dae_ir.specs.declared.form.Function.{Function}
use Rattle.dae_ir.specs.declared.form.Item.{Item}
use Rattle.dae_ir.specs.declared.form.Item.TheVariants.{Assign, Load, Store, Print, Expect, Break, Continue, Call, Return, Halt}
use Rattle.dae_ir.proofs.Laws.{KeepsArguments}
use Rattle.dae_webs.specs.Current.{Current, own_webs}
use Rattle.dae_webs.specs.Renamed.{Starts, variable_set, number_after, number_behind, web_set, webs_after, renamed_operand, renamed_operands, renamed_test, renamed_value, renamed_item, renamed_code}
use Rattle.dae_webs.specs.Known.{Owns, IsDefinedNext, IsKnown}
use Rattle.dae_webs.proofs.Inside.{in_first, in_second, in_rest}
use Rattle.dae_webs.proofs.Owning.{IsOf, AreOwned, owned_both, owned_second, owned_rest, owned_start, written_owned, set_owned, owned_next}
use Rattle.dae_webs.proofs.Simulation.{Renamer, same_length, not_zero}

module _ (fs gs : List Function) (keeps : KeepsArguments fs gs) (own limit : ℕ) (owner : ℕ → ℕ) (some : 0 < own) (few : own ≤ limit) (kept : (v : ℕ) → v < own → owner v ≡ v)
    (owns : Owns) (owned : (u v : ℕ) → owns u v ≡ true → IsOf owner limit u v) (b : Starts) where
  operand_in : (m : Current) → AreOwned owner limit m → (x : Operand) → IsIn own x → IsIn limit (renamed_operand m x)
  operand_in m all (Variable v) i = (written_owned owner limit own few kept m all v i).1
  operand_in m all (Number k) i = i

  test_in : (m : Current) → AreOwned owner limit m → (t : Test) → TestIn own t → TestIn limit (renamed_test m t)
  test_in m all t i = (operand_in m all t.left i.0, operand_in m all t.right i.1)

  value_in : (m : Current) → AreOwned owner limit m → (x : Value) → ValueIn own x → ValueIn limit (renamed_value m x)
  value_in m all (val.Same x) i = operand_in m all x i
  value_in m all (val.Extended kind x) i = operand_in m all x i
  value_in m all (val.Binary operator x y) i = (operand_in m all x i.0, operand_in m all y i.1)
  value_in m all (val.Holds t) i = test_in m all t i
  value_in m all (val.FrameAddress offset) i = i

  operands_in : (m : Current) → AreOwned owner limit m → (xs : List Operand) → AllByRecursion (IsIn own) xs → AllByRecursion (IsIn limit) (renamed_operands m xs)
  operands_in m all [] i = tt
  operands_in m all (x ∷ xs) i = (operand_in m all x i.0, operands_in m all xs i.1)

  target_in : (o : Option ℕ) (m : Current) → AreOwned owner limit m → (v : ℕ) → IsTarget own v → IsDefinedNext owns o m (Some v) → IsTarget limit (web_set o m v)
  target_in o m all v i d =
      let h = set_owned owner limit own few kept owns owned o m all v i.1 d in
      (not_zero owner limit v (web_set o m v) (kept 0 some) i.0 h.0, h.1)

  item_in : (item : Item) (o : Option ℕ) (m : Current) → ItemIn fs own item → AreOwned owner limit m → IsDefinedNext owns o m (variable_set item) → ItemIn gs limit (renamed_item o m item)
  item_in (Assign v x) o m i all d = (target_in o m all v i.0 d, value_in m all x i.1)
  item_in (Load v kind x) o m i all d = (target_in o m all v i.0 d, operand_in m all x i.1)
  item_in (Store width x y) o m i all d = (operand_in m all x i.0, operand_in m all y i.1)
  item_in (Print spelling x) o m i all d = operand_in m all x i
  item_in (Expect (Good width x)) o m i all d = operand_in m all x i
  item_in (Expect (InBounds x offset)) o m i all d = (operand_in m all x i.0, i.1)
  item_in (Expect (Zero x)) o m i all d = operand_in m all x i
  item_in (Expect (Room g)) o m i all d = subst (λ (n : ℕ). g < n) (sym keeps.count) i
  item_in (Expect Frame) o m i all d = tt
  item_in (Expect Abort) o m i all d = tt
  item_in Break o m i all d = tt
  item_in Continue o m i all d = tt
  item_in (Call v g xs) o m i all d =
      (target_in o m all v i.0 d, subst (λ (n : ℕ). TakesArguments (slice_get gs g) n) (sym (same_length m xs)) (keeps.takes g (length xs) i.1), operands_in m all xs i.2)
  item_in (Return x) o m i all d = operand_in m all x i
  item_in (Halt x) o m i all d = operand_in m all x i

  pub code_in : (code : Form) (n : ℕ) (m : Current) → Each (ItemIn fs own) (TestIn own) code → AreOwned owner limit m → IsKnown owns b n m code
      → Each (ItemIn gs limit) (TestIn limit) (renamed_code b n m code)
  code_in Done n m names all known = tt
  code_in (Do place item k) n m names all known = (
    item_in item (b n) m names.0 all known.1,
    code_in k (number_after n item) (webs_after (b n) m item) names.1 (owned_next owner limit own few kept owns owned (b n) (variable_set item) m all known.1) known.2,
  )
  code_in (If place t x y k) n m names all known = (
    test_in m all t names.0,
    code_in x n (in_first b n x y m) names.1 (owned_both owner limit b n x y m all) known.1,
    code_in y (number_behind n x) (in_second b n x y m) names.2 (owned_second owner limit b n x y m all) known.2,
    code_in k (number_behind (number_behind n x) y) (in_rest b n x y m) names.3 (owned_rest owner limit b n x y m all) known.3,
  )
  code_in (Loop place x y k) n m names all known = (
    code_in x n (in_first b n x y m) names.0 (owned_both owner limit b n x y m all) known.0,
    code_in y (number_behind n x) (in_second b n x y m) names.1 (owned_second owner limit b n x y m all) known.1,
    code_in k (number_behind (number_behind n x) y) (in_rest b n x y m) names.2 (owned_rest owner limit b n x y m all) known.2,
  )

-- ---- where code goes stays

jump_same : (item : Item) (o : Option ℕ) (m : Current) → is_jump (renamed_item o m item) ≡ is_jump item
jump_same (Assign v x) o m = refl
jump_same (Load v kind x) o m = refl
jump_same (Store width x y) o m = refl
jump_same (Print spelling x) o m = refl
jump_same (Expect check) o m = refl
jump_same Break o m = refl
jump_same Continue o m = refl
jump_same (Call v g xs) o m = refl
jump_same (Return x) o m = refl
jump_same (Halt x) o m = refl

end_same : (item : Item) (o : Option ℕ) (m : Current) → is_end (renamed_item o m item) ≡ is_end item
end_same (Assign v x) o m = refl
end_same (Load v kind x) o m = refl
end_same (Store width x y) o m = refl
end_same (Print spelling x) o m = refl
end_same (Expect check) o m = refl
end_same Break o m = refl
end_same Continue o m = refl
end_same (Call v g xs) o m = refl
end_same (Return x) o m = refl
end_same (Halt x) o m = refl

return_same : (item : Item) (o : Option ℕ) (m : Current) → is_return (renamed_item o m item) ≡ is_return item
return_same (Assign v x) o m = refl
return_same (Load v kind x) o m = refl
return_same (Store width x y) o m = refl
return_same (Print spelling x) o m = refl
return_same (Expect check) o m = refl
return_same Break o m = refl
return_same Continue o m = refl
return_same (Call v g xs) o m = refl
return_same (Return x) o m = refl
return_same (Halt x) o m = refl

module _ (b : Starts) where
  pub stays_same : (code : Form) (inside : Bool) (n : ℕ) (m : Current) → stays inside (renamed_code b n m code) ≡ stays inside code
  stays_same Done inside n m = refl
  stays_same (Do place item k) inside n m = rw (jump_same item (b n) m, stays_same k inside (number_after n item) (webs_after (b n) m item)) refl
  stays_same (If place t x y k) inside n m =
      rw (
        stays_same x inside n (in_first b n x y m),
        stays_same y inside (number_behind n x) (in_second b n x y m),
        stays_same k inside (number_behind (number_behind n x) y) (in_rest b n x y m),
      ) refl
  stays_same (Loop place x y k) inside n m =
      rw (
        stays_same x true n (in_first b n x y m),
        stays_same y true (number_behind n x) (in_second b n x y m),
        stays_same k inside (number_behind (number_behind n x) y) (in_rest b n x y m),
      ) refl

  pub closes_same : (code : Form) (n : ℕ) (m : Current) → closes (renamed_code b n m code) ≡ closes code
  closes_same Done n m = refl
  closes_same (Do place item k) n m = rw (end_same item (b n) m, closes_same k (number_after n item) (webs_after (b n) m item)) refl
  closes_same (If place t x y k) n m = closes_same k (number_behind (number_behind n x) y) (in_rest b n x y m)
  closes_same (Loop place x y k) n m = closes_same k (number_behind (number_behind n x) y) (in_rest b n x y m)

  pub never_same : (code : Form) (n : ℕ) (m : Current) → never_returns (renamed_code b n m code) ≡ never_returns code
  never_same Done n m = refl
  never_same (Do place item k) n m = rw (return_same item (b n) m, never_same k (number_after n item) (webs_after (b n) m item)) refl
  never_same (If place t x y k) n m =
      rw (never_same x n (in_first b n x y m), never_same y (number_behind n x) (in_second b n x y m), never_same k (number_behind (number_behind n x) y) (in_rest b n x y m)) refl
  never_same (Loop place x y k) n m =
      rw (never_same x n (in_first b n x y m), never_same y (number_behind n x) (in_second b n x y m), never_same k (number_behind (number_behind n x) y) (in_rest b n x y m)) refl

-- ---- a function

module _ (fs gs : List Function) (keeps : KeepsArguments fs gs) (own limit : ℕ) (code code' : Form) (r : Renamer fs own limit code code') where
  pub names_in : Each (ItemIn gs limit) (TestIn limit) code'
  names_in =
      subst (λ (c : Form). Each (ItemIn gs limit) (TestIn limit) c) (sym r.body)
      (code_in fs gs keeps own limit r.owner r.some r.few r.kept r.owns r.owned r.starts code 0 (own_webs 0 own) r.names (owned_start r.owner limit own r.few r.kept) r.known)

  pub function_stays : stays false code' ≡ stays false code
  function_stays = ap (stays false) r.body ∙ stays_same r.starts code false 0 (own_webs 0 own)

  pub function_closes : closes code' ≡ closes code
  function_closes = ap closes r.body ∙ closes_same r.starts code 0 (own_webs 0 own)

  pub function_never : never_returns code' ≡ never_returns code
  function_never = ap never_returns r.body ∙ never_same r.starts code 0 (own_webs 0 own)
