-- The laws are those of proofs/ConvertLaws.antt and proofs/One.antt.
use Rattle.savelog.proofs.ConvertLaws.{old_corner, same_records, there_and_back, back_exactly, last_dropped, in_parts, past_stays, recovers_as_before}
use Rattle.savelog.proofs.One.{one_conversion, one_converted}
use Rattle.savelog.proofs.convert.converters_hold.Goals as goal

pub returns : goal.returns
returns c = (old_corner, same_records, there_and_back, back_exactly, last_dropped, in_parts, past_stays, recovers_as_before, one_conversion, one_converted)
