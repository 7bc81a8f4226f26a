use Rattle.dae_split_pair.specs.declared.kinds.Counted.TheVariants.{Loads, Copies}
use Rattle.dae_split_pair.proofs.Found.{largest, fits}
use Rattle.dae_split_pair.proofs.depths.budget.Goals as goal

pub overflow_cast-result : goal.overflow_cast-result
overflow_cast-result c =
    let functions = c.args.pair.now.a.functions in
    let e = rw c.as_slice-a.ensures at c.most_of_all.ensures in
    record { fits = fits Loads functions c.most_of_all.result c.requires.ordered c.requires.loads e }

pub overflow_cast-result-2 : goal.overflow_cast-result-2
overflow_cast-result-2 c =
    let functions = c.args.pair.now.a.functions in
    let e = rw c.as_slice-a.ensures at c.most_of_all-2.ensures in
    record { fits = fits Copies functions c.most_of_all-2.result c.requires.ordered c.requires.copies e }

pub returns : goal.returns
returns c =
    let functions = c.args.pair.now.a.functions in
    record {
      ld = largest Loads functions c.most_of_all.result c.requires.ordered (rw c.as_slice-a.ensures at c.most_of_all.ensures);
      al = rw c.as_slice-a.ensures at c.stands.ensures;
      sa = rw c.as_slice-a.ensures at c.stands-2.ensures;
      sd = rw c.as_slice-e.ensures at c.stands-3.ensures;
      ab = rw c.as_slice-a.ensures at c.stands-4.ensures;
      eb = rw c.as_slice-e.ensures at c.stands-5.ensures;
      cq = largest Copies functions c.most_of_all-2.result c.requires.ordered (rw c.as_slice-a.ensures at c.most_of_all-2.ensures);
    }
