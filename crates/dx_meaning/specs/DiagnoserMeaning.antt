-- What a diagnosis module is as a module.
use Rattle.fm_core.specs.Meaning.{Meaning}
use Rattle.dx_state.specs.Configured.{Rules, known_of}
use Rattle.dx_step.specs.DiagnoserWords.{diagnoser_conf, diagnoser_takes, diagnoser_after}
use Rattle.dx_step.specs.DiagnoserWords.{diagnoser_says, diagnoser_holds, diagnoser_saved}
use Rattle.dx_step.proofs.Module.{after_ticks, says_ticks, conf_steps, after_holds, says_words}
use Rattle.dx_step.proofs.Module.{saved_once}

-- the meaning of the module that is made with these rules
abbrev pub diagnoser_meaning : Rules → Meaning
diagnoser_meaning r =
    record {
      own = r.own;
      known = known_of r.configurations;
      conf = diagnoser_conf;
      takes = diagnoser_takes r;
      after = diagnoser_after r;
      says = diagnoser_says r;
      holds = diagnoser_holds r;
      saved = diagnoser_saved;
      after_ticks = after_ticks r;
      says_ticks = says_ticks r;
      conf_steps = conf_steps r;
      after_holds = after_holds r;
      says_words = says_words r;
      saved_once = saved_once r;
    }
