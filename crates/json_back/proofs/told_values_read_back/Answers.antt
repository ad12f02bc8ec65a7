use Rattle.json_back.proofs.Telling.{read_told, writable_told, object_told, told_reads}
use Rattle.json_back.proofs.told_values_read_back.Goals as goal

pub returns-clause-read : goal.returns-clause-read
returns-clause-read c = read_told

pub returns-clause-writable : goal.returns-clause-writable
returns-clause-writable c = writable_told

pub returns-clause-objects : goal.returns-clause-objects
returns-clause-objects c = object_told

pub returns-clause-reads : goal.returns-clause-reads
returns-clause-reads c = told_reads
