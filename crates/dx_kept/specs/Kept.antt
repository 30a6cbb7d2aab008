-- A state as it is kept, as a state.
use Rattle.fm_core.specs.Meaning.{Diagnosis}
use Rattle.dx_kept.specs.declared.kept_state.KeptState.{KeptState}

abbrev pub diagnosis_of : KeptState → Diagnosis
diagnosis_of s = record {
  conf = s.conf;
  time = s.time;
  next = s.next;
  open_cases = s.open_cases;
  solved = s.solved;
  engines = s.engines;
}
