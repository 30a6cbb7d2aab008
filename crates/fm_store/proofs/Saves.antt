-- The saves of hands, and how long a checkpoint of them is.
use Rattle.std.proofs.Common.{◌≡◌, ℕ, ◌+◌, ◌<◌, ◌≤◌, ◌^◌, Bool, true, false, List, [], ◌∷◌, ◌++◌}
use Rattle.std.proofs.Common.{length, take, slice_get, Some, refl, sym, ◌∙◌, ap, subst, arith}
use Rattle.std.proofs.Common.{IsTrue, nat_le, ◌&&◌, length-append, flat_map}
use Rattle.std.specs.List.{list_all, AllByRecursion}
use Rattle.std.proofs.lemmas.Bool.Decides.{nat_tests}
use Rattle.std.proofs.lemmas.List.{map-append}
use Rattle.std.proofs.lemmas.List.Elements.{All-append, All-from_recursion}
use Rattle.fm_bytes.specs.Numbers.{u32_bytes, u64_bytes, long_text, counted_bytes}
use Rattle.fm_core.specs.Hands.{HandOf}
use Rattle.fm_core.specs.Meaning.{holds_of, saved_of}
use Rattle.fm_core.specs.declared.module.Module.{Ghosts as ModuleGhosts}
use Rattle.fm_core.proofs.Lists.{take_push}
use Rattle.fm_saved.specs.Checkpoints.{IsSpelledCheckpoint, checkpoint_bytes}
use Rattle.fm_saved.specs.Saved.{FitsLongText}
use Rattle.fm_saved.specs.declared.checkpoint.Checkpoint.{Checkpoint}
use Rattle.fm_store.specs.StoreCalls.{AreLawful, saves_of}

module _ {M : Type 0} (m : ModuleGhosts M) where
  -- one hand more is saved
  pub saves_more : (hands : List (HandOf M)) (i : ℕ) (h : HandOf M) (states more : List (List ℕ))
      (bytes : List ℕ) → slice_get hands i ≡ Some h → states ≡ saves_of m (take i hands)
      → more ≡ states ++ bytes ∷ [] → bytes ≡ saved_of (m.meaning h.object) (m.state h.object)
      → more ≡ saves_of m (take (i + 1) hands)
  saves_more hands i h states more bytes there so_far pushed is =
      pushed ∙ ap (λ (l : List (List ℕ)). l ++ bytes ∷ []) so_far
      ∙ ap (λ (b : List ℕ). saves_of m (take i hands) ++ b ∷ []) is
      ∙ sym (map-append (λ (x : HandOf M). saved_of (m.meaning x.object) (m.state x.object))
      (take i hands) (h ∷ []))
      ∙ sym (ap (saves_of m) (take_push hands i h there))

  pub lawful_more : (hands : List (HandOf M)) (i : ℕ) (h : HandOf M) → slice_get hands i ≡ Some h
      → AreLawful m (take i hands) → IsTrue (holds_of (m.meaning h.object) (m.state h.object))
      → AreLawful m (take (i + 1) hands)
  lawful_more hands i h there so_far holds =
      subst (AreLawful m) (sym (take_push hands i h there))
      (All-append is_lawful (take i hands) (h ∷ []) so_far
      (All-from_recursion is_lawful (h ∷ []) (holds, tt)))
    where
      is_lawful : HandOf M → Type 0
      is_lawful x = IsTrue (holds_of (m.meaning x.object) (m.state x.object))

-- no longer than a payload may be
abbrev pub is_short : List ℕ → Bool
is_short state = nat_le (length state) (2 ^ 28)

-- if one state is too long, all together are
long_one : (state : List ℕ) (rest : List (List ℕ)) (b : Bool) → is_short state ≡ b
    → (b && list_all is_short rest) ≡ false
    → (list_all is_short rest ≡ false → 2 ^ 28 < length (flat_map long_text rest))
    → 2 ^ 28 < length (flat_map long_text (state ∷ rest))
long_one state rest true is some more = omega (
  arith,
  more some,
  length-append (long_text state) (flat_map long_text rest),
)
long_one state rest false is some more =
    let long : 2 ^ 28 < length state = grind (arith, nat_tests) in
    omega (
      arith,
      long,
      length-append (long_text state) (flat_map long_text rest),
      length-append (u32_bytes (length state)) state,
    )

long_states : (states : List (List ℕ)) → list_all is_short states ≡ false
    → 2 ^ 28 < length (flat_map long_text states)
long_states [] none = absurd (let no : ⊥ = cc in no)
long_states (state ∷ states) some =
    long_one state states (is_short state) refl some (long_states states)

states_within : (c : Checkpoint)
    → length (flat_map long_text c.states) ≤ length (checkpoint_bytes c)
states_within c =
    let states = counted_bytes 4 long_text c.states in omega (
      arith,
      length-append (u64_bytes c.base) (u64_bytes c.moment ++ (u32_bytes c.conf ++ states)),
      length-append (u64_bytes c.moment) (u32_bytes c.conf ++ states),
      length-append (u32_bytes c.conf) states,
    )

pub too_long : (c : Checkpoint) (short : Bool) → short ≡ list_all is_short c.states
    → short ≡ false → 2 ^ 28 < length (checkpoint_bytes c)
too_long c short is test =
    let long = long_states c.states (sym is ∙ test) in omega (arith, long, states_within c)

-- else each has a length of four bytes
short_one : (state : List ℕ) (rest : List (List ℕ)) (b : Bool) → is_short state ≡ b
    → (b && list_all is_short rest) ≡ true
    → (list_all is_short rest ≡ true → AllByRecursion FitsLongText rest)
    → AllByRecursion FitsLongText (state ∷ rest)
short_one state rest true is all more =
    let short : length state ≤ 2 ^ 28 = grind (arith, nat_tests) in
    (omega (arith, short), more all)
short_one state rest false is all more = absurd (let no : ⊥ = cc in no)

short_states : (states : List (List ℕ)) → list_all is_short states ≡ true
    → AllByRecursion FitsLongText states
short_states [] all = tt
short_states (state ∷ states) all =
    short_one state states (is_short state) refl all (short_states states)

pub spelled_checkpoint : (c : Checkpoint) (short : Bool) → short ≡ list_all is_short c.states
    → short ≡ true → c.base ≤ 2 ^ 46 → c.moment < 2 ^ 62 → c.conf < 2 ^ 32
    → length c.states < 2 ^ 32 → IsSpelledCheckpoint c
spelled_checkpoint c short is test base moment conf few = record {
  base_fits = omega (arith, base);
  moment_fits = moment;
  conf_fits = conf;
  few = few;
  states_fit = All-from_recursion FitsLongText c.states (short_states c.states (sym is ∙ test));
}
