use Rattle.traceparent.proofs.Lengths.{written_length}
use Rattle.traceparent.proofs.ReadBack.{header_reads_back, written_reads_back}
use Rattle.traceparent.proofs.laws.written_reads_back.Goals as goal

pub returns : goal.returns
returns c = record { same = written_reads_back; header = header_reads_back; long = written_length }
