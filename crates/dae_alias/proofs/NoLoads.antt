-- Code without loads repeats none.
use Rattle.std.proofs.Common.{◌≡◌, ℕ, ◌+◌, true, false, ◌&&◌, [], List, refl}
use Rattle.std.proofs.lemmas.Bool.{and_parts}
use Rattle.dae_ir.specs.Code.{Done, Do, If, Loop}
use Rattle.dae_ir.specs.Form.{Form}
use Rattle.dae_ir.specs.declared.form.Item.TheVariants.{Assign, Load, Store, Print, Expect, Break, Continue, Call, Return, Halt}
use Rattle.dae_alias.specs.declared.held.Held.{Held}
use Rattle.dae_alias.specs.Stretches.{KnownInStretch, nothing, symbol, after}
use Rattle.dae_alias.specs.Reuse.{still_held, loads_in, has_no_load, is_repeated}

pub none_repeated : (i : ℕ) (code : Form) (s : KnownInStretch) (held : List Held) (l : ℕ) → has_no_load code ≡ true → is_repeated i s held l code ≡ false
none_repeated i Done s held l h = refl
none_repeated i (Do place (Assign v x) k) s held l h = none_repeated i k (after s (Assign v x)) held l h
none_repeated i (Do place (Load v kind x) k) s held l h = absurd cc
none_repeated i (Do place (Store width x y) k) s held l h = none_repeated i k s (still_held held (symbol s x) width) l h
none_repeated i (Do place (Expect check) k) s held l h = none_repeated i k s held l h
none_repeated i (Do place (Print spelling x) k) s held l h = none_repeated i k nothing [] l h
none_repeated i (Do place Break k) s held l h = none_repeated i k nothing [] l h
none_repeated i (Do place Continue k) s held l h = none_repeated i k nothing [] l h
none_repeated i (Do place (Call v f xs) k) s held l h = none_repeated i k nothing [] l h
none_repeated i (Do place (Return x) k) s held l h = none_repeated i k nothing [] l h
none_repeated i (Do place (Halt x) k) s held l h = none_repeated i k nothing [] l h
none_repeated i (If place t p q k) s held l h =
    let first = and_parts (has_no_load p) (has_no_load q && has_no_load k) h in
    let second = and_parts (has_no_load q) (has_no_load k) first.1 in
    rw (none_repeated i p nothing [] l first.0, none_repeated i q nothing [] (l + loads_in p) second.0, none_repeated i k nothing [] (l + loads_in p + loads_in q) second.1) refl
none_repeated i (Loop place p q k) s held l h =
    let first = and_parts (has_no_load p) (has_no_load q && has_no_load k) h in
    let second = and_parts (has_no_load q) (has_no_load k) first.1 in
    rw (none_repeated i p nothing [] l first.0, none_repeated i q nothing [] (l + loads_in p) second.0, none_repeated i k nothing [] (l + loads_in p + loads_in q) second.1) refl
