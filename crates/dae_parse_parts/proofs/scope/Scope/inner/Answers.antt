use Rattle.std.proofs.Common.{◌≡◌, ◌-◌, length, get_or, arith}
use Rattle.dae_parse_parts.proofs.NamesShown.{inner_shown}
use Rattle.dae_parse_parts.proofs.scope.Scope.inner.Goals as goal

pub returns : goal.returns
returns g c =
    let bs = c.self.inside.bindings.items in
    let ks = c.self.inside.starts.items in
    let k : c.unwrap_or-start.result ≡ get_or ks (length ks - 1) 0 = rw (c.unwrap_or-start.ensures, c.copied.ensures, ← c.deref.ensures.value) (c.last.ensures.item.4 (omega arith) 0) in
    rw (c.in_ok-extend_from_slice.ensures.items, c.new-inner.ensures.items, c.deref-2.ensures.value, ← c.self.view_is) (inner_shown bs ks c.unwrap_or-start.result k)
