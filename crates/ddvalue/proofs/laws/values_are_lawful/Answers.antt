use Rattle.ddvalue.specs.Values.{last_parent}
use Rattle.ddvalue.proofs.DdLawful.{are_values, short, begins, last_parents}
use Rattle.ddvalue.proofs.laws.values_are_lawful.Goals as goal

pub returns : goal.returns
returns c = record {
  are_values = λ p o d ts h k. are_values p o d ts h k.1;
  short = short;
  begins = begins;
  last_parents = last_parents;
  of_context = λ x h. are_values x.priority x.store.origin (last_parent x) x.store.tags h (last_parents x).1;
}
