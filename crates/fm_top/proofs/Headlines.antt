-- The headline, from what each command did.
use Rattle.std.proofs.Common.{inl, inr, ℕ, List, [], ◌∷◌, ◌++◌, true, length, take}
use Rattle.std.proofs.Common.{◌+◌, ◌≤◌, Result, Ok, Err, refl, sym, ◌∙◌, ap, subst, arith}
use Rattle.std.proofs.Common.{append-nil}
use Rattle.std.proofs.Math.Seq.{take-append_seam, take-length}
use Rattle.std.specs.Io.KnownBytes.{Appends, Consumes, IsAtEnd}
use Rattle.fm_answers.specs.Answers.{answers, entries_of}
use Rattle.fm_answers.specs.Ended.{ended}
use Rattle.fm_answers.specs.Running.{Line, AreRead, StopsAt, StopsBetween, RanUntil}
use Rattle.fm_answers.specs.declared.stops.Stop.{Stop}
use Rattle.fm_answers.specs.declared.stops.Stop.TheVariants.{Read, Write, Disk, Memory, Full}
use Rattle.fm_answers.proofs.AnswerLists.{entries_append, entries_one, answers_append}
use Rattle.fm_command.specs.declared.words.Command.TheVariants.{Accept}
use Rattle.fm_core.specs.Book.{next_number}
use Rattle.fm_init.specs.Making.{HasStore}
use Rattle.fm_journal.specs.Format.{IsJournal}
use Rattle.fm_journal.specs.declared.fault.FullKind.TheVariants.{Input}
use Rattle.fm_line.specs.Lines.{lines_of}
use Rattle.fm_logs.specs.Contents.{Contents}
use Rattle.fm_payloads.specs.Spelling.{EachSpells}
use Rattle.fm_logs.specs.ReadsAsBook.{SpellsConf}
use Rattle.fm_saved.specs.declared.conf.Conf.{Conf}
use Rattle.fm_top.specs.Exact.{ReadsExact}
use Rattle.fm_top.specs.Accepting.{AcceptRan, AcceptedUntil, Grew}
use Rattle.fm_top.specs.Headline.{WereAnswered, HasAnswered, Headline}
use Rattle.fm_top.specs.Kept.{BookAt}
use Rattle.fm_top.specs.Outside.{Outside, Tells}
use Rattle.fm_top.proofs.BookHeld.{HeldOf, held_each}

-- all of these lines were answered whole
pub whole_answered : (puts : List ℕ → Type 0) (next : ℕ) (lines : List Line)
    → puts (answers true 1 next lines) → WereAnswered puts next lines
whole_answered puts next lines put = record {
  whole = lines;
  last = [];
  lines_are = sym (append-nil lines);
  one_at_most = omega arith;
  count = length (answers true 1 next lines);
  past = omega arith;
  put = subst puts (sym (take-length (answers true 1 next lines))) put;
}

-- all but the last one, of which nothing was put
first_answered : (puts : List ℕ → Type 0) (next : ℕ) (lines : List Line) (line : Line)
    → puts (answers true 1 next lines) → WereAnswered puts next (lines ++ line ∷ [])
first_answered puts next lines line put = record {
  whole = lines;
  last = line ∷ [];
  lines_are = refl;
  one_at_most = omega arith;
  count = length (answers true 1 next lines);
  past = omega arith;
  put = subst puts
      (sym (ap (take (length (answers true 1 next lines)))
      (answers_append true 1 next lines (line ∷ []))
      ∙ take-append_seam (answers true 1 next lines)
      (answers true (1 + length lines) (next + length (entries_of lines)) (line ∷ []))))
      put;
}

-- what is read to see that more is left is one piece at most
more_short : (read more : List ℕ) (stop : Stop) → StopsBetween read more stop
    → length more ≤ 4096
more_short read more Read none = subst (λ m. length m ≤ 4096) (sym none) (omega arith)
more_short read more Memory none = subst (λ m. length m ≤ 4096) (sym none) (omega arith)
more_short read more (Full Input) (there, some, few) = few
more_short read more _ why = absurd why

module _ (before after : Outside) (told : Contents) where
  -- how an image is, with the entries of lines that were answered
  has_answered : (stood : BookAt told) (image : Contents) (lines others : List Line)
      (read : List ℕ) → Consumes before.input.left after.input.left read
      → AreRead read (IsAtEnd after.input.left) (lines ++ others)
      → WereAnswered (Appends before.out.bytes after.out.bytes) (next_number stood.book.book) lines
      → ReadsExact stood (entries_of lines) image
      → HasAnswered before after told stood image
  has_answered stood image lines others read consumed first answered reads = record {
    read = read;
    consumed = consumed;
    lines = lines;
    others = others;
    first = first;
    answered = answered;
    reads = reads;
  }

  -- the run stopped at a line: how each image is then, by the cause
  halted_at : (next : ℕ) (read : List ℕ) (lines : List Line) (line : Line) (stop : Stop)
      → Tells before.disks told → Consumes before.input.left after.input.left read
      → AreRead read (IsAtEnd after.input.left) (lines ++ line ∷ [])
      → StopsAt (Grew before.disks after.disks next) (Appends before.out.bytes after.out.bytes)
      (answers true 1 next) lines line stop → HeldOf before after told (Err stop)
  halted_at next read lines line Write tells consumed there (m, past, put, took) =
      let grew = took told tells in record {
        stood = grew.stood;
        left = λ image leaves.
            has_answered grew.stood image (lines ++ line ∷ []) [] read consumed
            (subst (AreRead read (IsAtEnd after.input.left))
            (sym (append-nil (lines ++ line ∷ []))) there)
            (subst (λ n. WereAnswered (Appends before.out.bytes after.out.bytes) n
            (lines ++ line ∷ [])) grew.numbered
            (record {
              whole = lines;
              last = line ∷ [];
              lines_are = refl;
              one_at_most = omega arith;
              count = m;
              past = past;
              put = put;
            }))
            (grew.left image leaves);
      }
  halted_at next read lines line Disk tells consumed there (put, (entry, only, took)) =
      let grew = took told tells in record {
        stood = grew.stood;
        left = λ image leaves. elim (grew.left image leaves) [
          | inl without ↦ has_answered grew.stood image lines (line ∷ []) read consumed there
              (subst (λ n. WereAnswered (Appends before.out.bytes after.out.bytes) n lines)
              grew.numbered (whole_answered (Appends before.out.bytes after.out.bytes) next lines
              put)) without
          | inr within ↦ has_answered grew.stood image (lines ++ line ∷ []) [] read consumed
              (subst (AreRead read (IsAtEnd after.input.left))
              (sym (append-nil (lines ++ line ∷ []))) there)
              (subst (λ n. WereAnswered (Appends before.out.bytes after.out.bytes) n
              (lines ++ line ∷ [])) grew.numbered
              (first_answered (Appends before.out.bytes after.out.bytes) next lines line put))
              (subst (λ es. ReadsExact grew.stood es image)
              (sym (entries_append lines (line ∷ [])
              ∙ ap (λ es. entries_of lines ++ es) (entries_one line ∙ only))) within)
        ];
      }
  halted_at next read lines line (Full kind) tells consumed there (put, (entry, only, took)) =
      let grew = took told tells in record {
        stood = grew.stood;
        left = λ image leaves.
            has_answered grew.stood image lines (line ∷ []) read consumed there
            (subst (λ n. WereAnswered (Appends before.out.bytes after.out.bytes) n lines)
            grew.numbered (whole_answered (Appends before.out.bytes after.out.bytes) next lines
            put)) (grew.left image leaves);
      }
  halted_at next read lines line Memory tells consumed there (put, inl took) =
      let grew = took told tells in record {
        stood = grew.stood;
        left = λ image leaves.
            has_answered grew.stood image lines (line ∷ []) read consumed there
            (subst (λ n. WereAnswered (Appends before.out.bytes after.out.bytes) n lines)
            grew.numbered (whole_answered (Appends before.out.bytes after.out.bytes) next lines
            put)) (grew.left image leaves);
      }
  halted_at next read lines line Memory tells consumed there (put, inr took) =
      let grew = took told tells in record {
        stood = grew.stood;
        left = λ image leaves.
            has_answered grew.stood image (lines ++ line ∷ []) [] read consumed
            (subst (AreRead read (IsAtEnd after.input.left))
            (sym (append-nil (lines ++ line ∷ []))) there)
            (subst (λ n. WereAnswered (Appends before.out.bytes after.out.bytes) n
            (lines ++ line ∷ [])) grew.numbered
            (first_answered (Appends before.out.bytes after.out.bytes) next lines line put))
            (grew.left image leaves);
      }
  halted_at next read lines line _ tells consumed there stops = absurd stops

  pub until_held : (stop : Stop) → Tells before.disks told
      → AcceptedUntil before.input after.input before.out after.out before.disks after.disks stop
      → HeldOf before after told (Err stop)
  until_held stop tells until = by_run until.ran
    where
      by_run : RanUntil (Grew before.disks after.disks until.next)
          (Appends before.out.bytes after.out.bytes) true until.next
          (Consumes before.input.left after.input.left) (IsAtEnd after.input.left) stop
          → HeldOf before after told (Err stop)
      by_run (inl ran) =
          let grew = ran.took told tells in record {
            stood = grew.stood;
            left = λ image leaves.
                has_answered grew.stood image (ended ran.read) [] (ran.read ++ ran.more)
                ran.consumed
                (inl (
                  ran.read,
                  ran.more,
                  refl,
                  more_short ran.read ran.more stop ran.why,
                  sym (append-nil (ended ran.read)),
                ))
                (subst (λ n. WereAnswered (Appends before.out.bytes after.out.bytes) n
                (ended ran.read)) grew.numbered
                (whole_answered (Appends before.out.bytes after.out.bytes) until.next
                (ended ran.read) ran.put)) (grew.left image leaves);
          }
      by_run (inr ran) =
          halted_at until.next ran.read ran.lines ran.line stop tells ran.consumed ran.there
          ran.stops

pub headline_accept : (before after : Outside) (ran : Result (Unit {0}) Stop)
    → AcceptRan before.input after.input before.out after.out before.disks after.disks ran
    → Headline Accept before after ran
headline_accept before after (Ok done) did = inr (λ told tells.
    held_each before after told (Ok done) (let run = did.went.ran in
    let grew = run.took told tells in record {
      stood = grew.stood;
      left = λ image leaves. record {
        read = run.read;
        consumed = run.consumed;
        at_end = run.whole;
        put = subst (λ n. Appends before.out.bytes after.out.bytes
            (answers true 1 n (lines_of run.read))) grew.numbered run.put;
        reads = grew.left image leaves;
      };
    }))
headline_accept before after (Err stop) did =
    elim did.went [
      | inl refused ↦ inl (record {
        refused = tt;
        unread = refused.consumed;
        unsaid = refused.put;
        left = λ image leaves name. (refused.untouched name).images _ (leaves name);
      })
      | inr until ↦ inr (λ told tells.
          held_each before after told (Err stop)
          (until_held before after told stop tells until))
    ]

-- contents that read as a book have a store
spelled_first : (bytes : List ℕ) (first : ℕ) (payloads : List (List ℕ)) (confs : List Conf)
    → IsJournal bytes first payloads → EachSpells SpellsConf payloads confs → 1 ≤ length confs
    → HasStore bytes
spelled_first bytes first (payload ∷ payloads) confs journal spelled some =
    (first, payload, payloads, journal)
spelled_first bytes first [] [] journal spelled some = absurd
    (let no : ⊥ = omega (arith, some) in no)
spelled_first bytes first [] (conf ∷ confs) journal spelled some = absurd spelled

pub has_store : (c : Contents) → BookAt c → HasStore c.conf
has_store c stood =
    let log = stood.reads.says.confs in
    spelled_first c.conf stood.reads.says.conf_first log.payloads stood.book.confs log.journal
    log.spelled stood.reads.lawful.some_confs
