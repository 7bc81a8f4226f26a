use Rattle.std.proofs.Common.{sym, subst}
use Rattle.dae_guard.specs.Kept.{AreKept, AreProper, IsKept, IsProper}
use Rattle.dae_guard.proofs.QueueLaws.{all_rest}
use Rattle.dae_guard.proofs.queues.RangeQueues.take.Goals as goal

pub returns-in-Ld-clause-holds : goal.returns-in-Ld-clause-holds
returns-in-Ld-clause-holds c = record {
  ld = subst (AreKept c.args.self.now.sa.items) (sym c.drop_front.ensures) (all_rest (IsKept c.args.self.now.sa.items) c.args.self.now.ld.items c.requires.ld);
  al = c.requires.al;
  few = c.requires.few;
  ab = c.requires.ab;
  eb = c.requires.eb;
  cq = c.requires.cq;
}

pub returns-in-Al-clause-holds : goal.returns-in-Al-clause-holds
returns-in-Al-clause-holds c = record {
  ld = c.requires.ld;
  al = subst (AreKept c.args.self.now.sa.items) (sym c.drop_front-in-Al.ensures) (all_rest (IsKept c.args.self.now.sa.items) c.args.self.now.al.items c.requires.al);
  few = c.requires.few;
  ab = c.requires.ab;
  eb = c.requires.eb;
  cq = c.requires.cq;
}

pub returns-in-Ab-clause-holds : goal.returns-in-Ab-clause-holds
returns-in-Ab-clause-holds c = record {
  ld = c.requires.ld;
  al = c.requires.al;
  few = c.requires.few;
  ab = subst AreProper (sym c.drop_front-in-Ab.ensures) (all_rest IsProper c.args.self.now.ab.items c.requires.ab);
  eb = c.requires.eb;
  cq = c.requires.cq;
}

pub returns-in-Eb-clause-holds : goal.returns-in-Eb-clause-holds
returns-in-Eb-clause-holds c = record {
  ld = c.requires.ld;
  al = c.requires.al;
  few = c.requires.few;
  ab = c.requires.ab;
  eb = subst AreProper (sym c.drop_front-in-Eb.ensures) (all_rest IsProper c.args.self.now.eb.items c.requires.eb);
  cq = c.requires.cq;
}

pub returns-in-Cq-clause-holds : goal.returns-in-Cq-clause-holds
returns-in-Cq-clause-holds c = record {
  ld = c.requires.ld;
  al = c.requires.al;
  few = c.requires.few;
  ab = c.requires.ab;
  eb = c.requires.eb;
  cq = subst AreProper (sym c.drop_front-in-Cq.ensures) (all_rest IsProper c.args.self.now.cq.items c.requires.cq);
}
