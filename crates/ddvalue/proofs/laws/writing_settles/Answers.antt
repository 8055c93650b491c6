use Rattle.std.proofs.Common.{ap}
use Rattle.w3c_extract.specs.Reads.{decoded}
use Rattle.ddvalue.specs.Values.{written_key, written_value}
use Rattle.ddvalue.proofs.CleanBytes.{clean_key_lem, kept-key, clean_value_lem, kept-value, read-digits}
use Rattle.ddvalue.proofs.Priorities.{read-priority}
use Rattle.ddvalue.proofs.laws.writing_settles.Goals as goal

pub returns : goal.returns
returns c = record {
  keys = λ k. kept-key (written_key k) (clean_key_lem k);
  values = λ v. kept-value (written_value v) (clean_value_lem v);
  values_read = λ v. ap decoded (kept-value (written_value v) (clean_value_lem v));
  priorities = read-priority;
  digits = λ d h. read-digits d h.1;
}
