-- What `esc` did, in the words of the whole call.
use Rattle.std.proofs.Common.{◌≡◌, inl, inr, ℕ, List, [], ◌∷◌, map, refl, sym, subst, OnOk, IfErr}
use Rattle.std.proofs.Common.{Option, Some, None, Result, Ok, Err}
use Rattle.fm_answers.specs.Ending.{EndsAs}
use Rattle.fm_answers.specs.StreamsAt.{SinkAt, source_at}
use Rattle.fm_answers.specs.Refusing.{PutCut}
use Rattle.fm_answers.specs.Stops.{of_compiling, of_input}
use Rattle.fm_answers.specs.declared.status.ToolStatus.{ToolStatus}
use Rattle.fm_answers.specs.declared.stops.Stop.{Stop}
use Rattle.fm_answers.specs.declared.stops.Stop.TheVariants.{Write, Memory}
use Rattle.fm_command.specs.declared.words.Command.TheVariants.{Esc, EscInput}
use Rattle.fm_outer.specs.declared.source.Source.{Ghosts}
use Rattle.fm_esc.specs.Compiling.{IsCompiled}
use Rattle.fm_esc.specs.InputListing.{InputCause, IsListed}
use Rattle.fm_esc.specs.declared.faults.CompileFault.TheVariants as compiling
use Rattle.fm_esc.specs.declared.faults.InputFault.{InputFault}
use Rattle.fm_esc.specs.declared.faults.InputFault.TheVariants as inputs
use Rattle.ev_listing.specs.declared.form.GraphForm.{GraphForm}
use Rattle.fm_sources.specs.Sources.{given}
use Rattle.fm_top.specs.Calls.{IsCaused, Does}
use Rattle.fm_top.specs.Esc.{EscEnds, EscInputEnds, TextEnds}
use Rattle.fm_top.specs.Esc.{after_listing}
use Rattle.fm_top.specs.Headline.{AreFromBefore}
use Rattle.fm_top.specs.Order.{Goes, looks, world_of}
use Rattle.fm_top.specs.Outside.{Outside, standing, given_of}
use Rattle.fm_top.specs.Outside.{disk_counts, counts_of}
use Rattle.fm_top.proofs.Going.{put_goes}
use Rattle.fm_top.proofs.SourceFaults.{cause_goes, cause_caused, cause_standing, done_quiet}
use Rattle.fm_top.proofs.SourceFaults.{ok_no_err}
use Rattle.fm_top.proofs.Standing.{reads_standing, gave_text}

-- ---- rule files and a topology

text_goes : (before after : Outside) (form : GraphForm) (text : List ℕ)
    (ran : Result (Unit {0}) Stop)
    → IsCompiled standing form (given_of before) (given_of after) text
    → TextEnds before.out after.out text ran → Goes (world_of before after) (looks (Esc form)) ran
text_goes before after form text ran is =
    put_goes (world_of before after) (looks (Esc form)) before.out after.out text ran (
      (is.got.files.items, is.read.0),
      (
        (is.got.topo_text.items, is.got.topo, is.read.1),
        ((is.got, is.read, (is.mades, is.graphs)), tt),
      ),
    )

esc_goes : (before after : Outside) (form : GraphForm) (ran : Result (Unit {0}) Stop)
    → EscEnds standing form (given_of before) (given_of after) before.out after.out ran
    → Goes (world_of before after) (looks (Esc form)) ran
esc_goes before after form ran (inl (text, is, put)) =
    text_goes before after form text ran is put
esc_goes before after form ran (inr (fault, cause, same, rest)) =
    subst (Goes (world_of before after) (looks (Esc form))) (sym same)
    (cause_goes before after [] fault cause)

-- a text that was put, or part of one
pub text_caused : (before after : Outside) (text : List ℕ) (ran : Result (Unit {0}) Stop)
    → TextEnds before.out after.out text ran → IfErr ran (IsCaused before after)
text_caused before after text (Ok done) put = tt
text_caused before after text (Err Write) cut = cut.0
text_caused before after text (Err Memory) cut = tt
text_caused before after text (Err _) cut = absurd cut

esc_caused : (before after : Outside) (form : GraphForm) (ran : Result (Unit {0}) Stop)
    → EscEnds standing form (given_of before) (given_of after) before.out after.out ran
    → IfErr ran (IsCaused before after)
esc_caused before after form ran (inl (text, is, put)) = text_caused before after text ran put
esc_caused before after form ran (inr (fault, cause, same, rest)) =
    subst (λ r. IfErr r (IsCaused before after)) (sym same)
    (cause_caused before after fault cause)

esc_quiet : (before after : Outside) (form : GraphForm) (ran : Result (Unit {0}) Stop)
    → EscEnds standing form (given_of before) (given_of after) before.out after.out ran
    → after.input ≡ before.input → after.acts ≡ before.acts
    → disk_counts after.disks ≡ disk_counts before.disks
    → OnOk ran (counts_of after ≡ counts_of before)
esc_quiet before after form (Err stop) ends input acts disks = tt
esc_quiet before after form (Ok done) (inl (text, is, put)) input acts disks =
    done_quiet before after is.got.files.items is.got.topo_text.items is.got.topo is.read.0
    is.read.1 input put.quiet acts disks
esc_quiet before after form (Ok done) (inr (fault, cause, same, rest)) input acts disks =
    absurd (ok_no_err done (of_compiling fault) same)

pub does_esc : (before after : Outside) (middle : SinkAt) (form : GraphForm)
    (ran : Result (Unit {0}) Stop) (result : ToolStatus)
    → EscEnds standing form (given_of before) (given_of after) before.out middle ran
    → EndsAs middle after.out ran result → after.input ≡ before.input
    → after.acts ≡ before.acts → disk_counts after.disks ≡ disk_counts before.disks
    → AreFromBefore before.disks after.disks → Does (Some (Esc form)) before after result
does_esc before after middle form ran result ends last input acts disks same =
    let mid : Outside = record after { out = middle } in (
      ran,
      middle,
      record {
        order = esc_goes before mid form ran ends;
        cause = esc_caused before mid form ran ends;
        quiet = esc_quiet before mid form ran ends input acts disks;
        did = ends;
        headline = same;
      },
      last,
    )

-- ---- what is said of the sources as objects is said of them as they stand

module _ {S : Type 0} (g : Ghosts S) (olds news : List S) (old new : S) where
  compiled_standing : (form : GraphForm) (text : List ℕ)
      → IsCompiled g form (given olds old) (given news new) text
      → IsCompiled standing form (given (map (source_at g) olds) (source_at g old))
      (given (map (source_at g) news) (source_at g new)) text
  compiled_standing form text is = record {
    got = is.got;
    read = reads_standing g olds news old new (Ok is.got) is.read;
    mades = is.mades;
    graphs = is.graphs;
    text_is = is.text_is;
  }

  pub esc_standing : (form : GraphForm) (out out_now : SinkAt) (ran : Result (Unit {0}) Stop)
      → EscEnds g form (given olds old) (given news new) out out_now ran
      → EscEnds standing form (given (map (source_at g) olds) (source_at g old))
      (given (map (source_at g) news) (source_at g new)) out out_now ran
  esc_standing form out out_now ran (inl (text, is, put)) =
      inl (text, compiled_standing form text is, put)
  esc_standing form out out_now ran (inr (fault, cause, same, rest)) =
      inr (fault, cause_standing g olds news old new fault cause, same, rest)

-- ---- compiled files

whole_goes : (before after : Outside) (text : List ℕ) (bad : Option ℕ)
    → IsListed standing before.input after.input text bad
    → Goes (world_of before after) (looks EscInput) (after_listing bad)
whole_goes before after text None listed = (inl (text, listed), tt)
whole_goes before after text (Some place) listed =
    inr (inl (inl (place, refl, (text, listed))))

cut_goes : (before after : Outside) (text : List ℕ) (stop : Stop)
    → PutCut before.out after.out text stop
    → Goes (world_of before after) (looks EscInput) (Err stop)
cut_goes before after text Write cut = inl tt
cut_goes before after text Memory cut = inl tt
cut_goes before after text _ cut = absurd cut

none_goes : (before after : Outside) (fault : InputFault)
    → InputCause standing before.input after.input fault
    → Goes (world_of before after) (looks EscInput) (Err (of_input fault))
none_goes before after inputs.Read cause = inl tt
none_goes before after inputs.Full cause = inr (inr ((inr cause, tt), tt))
none_goes before after inputs.NoMemory cause = inl tt

input_goes : (before after : Outside) (ran : Result (Unit {0}) Stop)
    → EscInputEnds standing before.input after.input before.out after.out ran
    → Goes (world_of before after) (looks EscInput) ran
input_goes before after ran (inl whole) =
    subst (Goes (world_of before after) (looks EscInput)) (sym whole.ends)
    (whole_goes before after whole.text whole.bad whole.listed)
input_goes before after ran (inr (inl part)) =
    subst (Goes (world_of before after) (looks EscInput)) (sym part.ends)
    (cut_goes before after part.text part.stop part.cut)
input_goes before after ran (inr (inr none)) =
    subst (Goes (world_of before after) (looks EscInput)) (sym none.ends)
    (none_goes before after none.fault none.cause)

whole_caused : (before after : Outside) (bad : Option ℕ)
    → IfErr (after_listing bad) (IsCaused before after)
whole_caused before after None = tt
whole_caused before after (Some place) = tt

cut_caused : (before after : Outside) (text : List ℕ) (stop : Stop)
    → PutCut before.out after.out text stop → IsCaused before after stop
cut_caused before after text Write cut = cut.0
cut_caused before after text Memory cut = tt
cut_caused before after text _ cut = absurd cut

none_caused : (before after : Outside) (fault : InputFault)
    → InputCause standing before.input after.input fault
    → IsCaused before after (of_input fault)
none_caused before after inputs.Read rose = (0, (_, _, refl, refl, rose))
none_caused before after inputs.Full cause = tt
none_caused before after inputs.NoMemory cause = tt

input_caused : (before after : Outside) (ran : Result (Unit {0}) Stop)
    → EscInputEnds standing before.input after.input before.out after.out ran
    → IfErr ran (IsCaused before after)
input_caused before after ran (inl whole) =
    subst (λ r. IfErr r (IsCaused before after)) (sym whole.ends)
    (whole_caused before after whole.bad)
input_caused before after ran (inr (inl part)) =
    subst (λ r. IfErr r (IsCaused before after)) (sym part.ends)
    (cut_caused before after part.text part.stop part.cut)
input_caused before after ran (inr (inr none)) =
    subst (λ r. IfErr r (IsCaused before after)) (sym none.ends)
    (none_caused before after none.fault none.cause)

counts_same : (before after : Outside)
    → after.input.failures ≡ before.input.failures
    → after.out.failures ≡ before.out.failures → after.rules ≡ before.rules
    → after.topo ≡ before.topo → after.acts ≡ before.acts
    → disk_counts after.disks ≡ disk_counts before.disks
    → counts_of after ≡ counts_of before
counts_same before after input out rules topo acts disks =
    λ i. record {
      sources = input i ∷ (topo i).failures ∷ map (λ s. s.failures) (rules i);
      out = out i;
      disks = disks i;
      acts = map (λ a. a.failures) (acts i);
    }

input_quiet : (before after : Outside) (ran : Result (Unit {0}) Stop)
    → EscInputEnds standing before.input after.input before.out after.out ran
    → after.rules ≡ before.rules → after.topo ≡ before.topo → after.acts ≡ before.acts
    → disk_counts after.disks ≡ disk_counts before.disks
    → OnOk ran (counts_of after ≡ counts_of before)
input_quiet before after (Err stop) ends rules topo acts disks = tt
input_quiet before after (Ok done) (inl whole) rules topo acts disks =
    counts_same before after whole.listed.gave.quiet whole.put.quiet rules topo acts disks
input_quiet before after (Ok done) (inr (inl part)) rules topo acts disks =
    absurd (ok_no_err done part.stop part.ends)
input_quiet before after (Ok done) (inr (inr none)) rules topo acts disks =
    absurd (ok_no_err done (of_input none.fault) none.ends)

pub does_input : (before after : Outside) (middle : SinkAt) (ran : Result (Unit {0}) Stop)
    (result : ToolStatus)
    → EscInputEnds standing before.input after.input before.out middle ran
    → EndsAs middle after.out ran result → after.rules ≡ before.rules
    → after.topo ≡ before.topo → after.acts ≡ before.acts
    → disk_counts after.disks ≡ disk_counts before.disks
    → AreFromBefore before.disks after.disks → Does (Some EscInput) before after result
does_input before after middle ran result ends last rules topo acts disks same =
    let mid : Outside = record after { out = middle } in (
      ran,
      middle,
      record {
        order = input_goes before mid ran ends;
        cause = input_caused before mid ran ends;
        quiet = input_quiet before mid ran ends rules topo acts disks;
        did = ends;
        headline = same;
      },
      last,
    )

module _ {S : Type 0} (g : Ghosts S) (old new : S) where
  listed_standing : (text : List ℕ) (bad : Option ℕ) → IsListed g old new text bad
      → IsListed standing (source_at g old) (source_at g new) text bad
  listed_standing text bad is = record {
    bytes = is.bytes;
    gave = gave_text g _ old new is.bytes is.gave;
    within = is.within;
    mades = is.mades;
    files = is.files;
    text_is = is.text_is;
  }

  none_standing : (fault : InputFault) → InputCause g old new fault
      → InputCause standing (source_at g old) (source_at g new) fault
  none_standing inputs.Read rose = rose
  none_standing inputs.Full (bytes, gave, much) =
      (bytes, gave_text g _ old new bytes gave, much)
  none_standing inputs.NoMemory same = same

  pub input_standing : (out out_now : SinkAt) (ran : Result (Unit {0}) Stop)
      → EscInputEnds g old new out out_now ran
      → EscInputEnds standing (source_at g old) (source_at g new) out out_now ran
  input_standing out out_now ran (inl whole) = inl (record {
    text = whole.text;
    bad = whole.bad;
    listed = listed_standing whole.text whole.bad whole.listed;
    put = whole.put;
    ends = whole.ends;
  })
  input_standing out out_now ran (inr (inl part)) = inr (inl (record {
    text = part.text;
    bad = part.bad;
    listed = listed_standing part.text part.bad part.listed;
    stop = part.stop;
    cut = part.cut;
    ends = part.ends;
  }))
  input_standing out out_now ran (inr (inr none)) = inr (inr (record {
    fault = none.fault;
    cause = none_standing none.fault none.cause;
    ends = none.ends;
    put = none.put;
  }))
