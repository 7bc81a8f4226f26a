use Rattle.std.proofs.Common.{◌≡◌, ◌+◌, true, sym, subst, rules}
use Rattle.dae_unit.specs.declared.couples.CoupleVerdict.TheVariants.{Same}
use Rattle.dae_unit.specs.Couples.{all_agree}
use Rattle.dae_unit.proofs.Comparing.{known_agree, known_moved, noted, parts_noted}
use Rattle.dae_unit.proofs.across.note.Goals as goal
use Rattle.dae_unit.proofs.across.note.Goals.{in-Some+then-depth-lt18446744073709551615+in_ok-insert, in-Some+else-depth-lt18446744073709551615, in_default}

pub returns : goal.returns
returns c =
    let a = c.args in
    let agree : c.in_ok-push_parts.field-0 ≡ true = search rules in
    elim c.match-depth_of.branch [
      | in-Some+then-depth-lt18446744073709551615+in_ok-insert w ↦
          (let moved : w.insert.new.self.entries ≡ c.match-depth_of.known.entries = cc in
          let parts = known_agree a.f.now a.g.now a.known.now.entries c.requires 0 w.in-Some.depth c.as_slice.result.now (sym w.in-Some.ensures) in
          let all = subst (λ z. all_agree w.in-Some.depth a.f.now a.g.now z ≡ true) c.as_slice.ensures.value parts in
          let holds = parts_noted a.f.now a.g.now a.couple c.new-parts.result.items c.push_parts.new.parts.items c.new-parts.ensures.items c.in_ok-push_parts.field-0 c.in_ok-push_parts.ensures.same agree w.in-Some.depth all in
          known_moved a.f.now a.g.now w.insert.new.self.entries c.match-depth_of.known.entries moved
          (noted a.f.now a.g.now a.known.now.entries w.insert.new.self.entries a.couple (Same (w.in-Some.depth + 1)) holds (λ q. w.in_ok-insert.ensures.updates.0 q) c.requires))
      | in-Some+else-depth-lt18446744073709551615 w ↦
          (let moved : a.known.now.entries ≡ c.match-depth_of.known.entries = cc in
          known_moved a.f.now a.g.now a.known.now.entries c.match-depth_of.known.entries moved c.requires)
      | in_default w ↦
          (let moved : a.known.now.entries ≡ c.match-depth_of.known.entries = cc in
          known_moved a.f.now a.g.now a.known.now.entries c.match-depth_of.known.entries moved c.requires)
    ]
