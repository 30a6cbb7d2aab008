use Rattle.fm_answers.proofs.last.put_last.Goals as goal

pub returns-in-Read-clause-err : goal.returns-in-Read-clause-err
returns-in-Read-clause-err g c = rw c.in-Read.is c.put_text-in-Read.ensures.err

pub returns-in-Disk-clause-ok : goal.returns-in-Disk-clause-ok
returns-in-Disk-clause-ok g c = rw c.in-Disk.is c.put_text-in-Disk.ensures.ok

pub returns-in-Disk-clause-err : goal.returns-in-Disk-clause-err
returns-in-Disk-clause-err g c = rw c.in-Disk.is c.put_text-in-Disk.ensures.err

pub returns-in-Differs-clause-err : goal.returns-in-Differs-clause-err
returns-in-Differs-clause-err g c = rw c.in-Differs.is c.put_text-in-Differs.ensures.err

pub returns-in-NotFaulty-clause-err : goal.returns-in-NotFaulty-clause-err
returns-in-NotFaulty-clause-err g c = rw c.in-NotFaulty.is c.put_text-in-NotFaulty.ensures.err

pub returns-in-NotFound-clause-err : goal.returns-in-NotFound-clause-err
returns-in-NotFound-clause-err g c = rw c.in-NotFound.is c.put_text-in-NotFound.ensures.err
