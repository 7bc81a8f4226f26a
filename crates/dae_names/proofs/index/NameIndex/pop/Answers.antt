use Rattle.dae_names.proofs.Indexed.{indexed_pop, is_there, names_cut}
use Rattle.dae_names.proofs.index.NameIndex.pop.Goals as goal

pub show_hidden-requires : goal.show_hidden-requires
show_hidden-requires c =
    is_there c.pop.new.self.items c.in-Some.entry c.self.inside.entries.items c.in-Some.ensures.items c.self.inside.latest c.self.invariant

pub invariant_of-self : goal.invariant_of-self
invariant_of-self c =
    indexed_pop c.pop.new.self.items c.in-Some.entry c.self.inside.entries.items c.in-Some.ensures.items c.self.inside.latest c.show_hidden.new.latest c.show_hidden.ensures c.self.invariant

pub returns-in-Some : goal.returns-in-Some
returns-in-Some c =
    rw (← c.self.view_is) (names_cut c.self.inside.entries.items c.pop.new.self.items c.self.inside.entries.len c.self.inside.entries.ok.0 c.in-Some.ensures.rest)

pub returns-in_default : goal.returns-in_default
returns-in_default c =
    rw (← c.self.view_is) (names_cut c.self.inside.entries.items c.pop.new.self.items c.self.inside.entries.len c.self.inside.entries.ok.0 c.pop.ensures.rest)
