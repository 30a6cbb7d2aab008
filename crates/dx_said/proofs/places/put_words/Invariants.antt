use Rattle.std.proofs.Common.{◌≡◌, ◌+◌, ◌≤◌, IsTrue, vec_len, vec_capacity, length}
use Rattle.std.specs.Vec.Iter.{into_iter_items, into_iter_len}
use Rattle.ev_incidence.specs.Sets.{ascends}
use Rattle.dx_state.specs.LawfulState.{solved_numbers}
use Rattle.dx_said.specs.Making.{with_words}
use Rattle.dx_said.proofs.places.put_words.Given as goal

abbrev pub invariant-loop-word : goal.invariant-loop-word
invariant-loop-word l = record {
  put : with_words (into_iter_items l.word-iterator) l.words.items
      ≡ with_words (into_iter_items l.initial.word-iterator) l.initial.words.items;
  count : into_iter_len l.word-iterator ≡ length (into_iter_items l.word-iterator);
  room : vec_len l.words + length (into_iter_items l.word-iterator) ≤ vec_capacity l.words;
  ascend : IsTrue (ascends (solved_numbers l.words.items));
}
