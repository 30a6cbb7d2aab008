-- What two texts of parts have in common in front.
use Rattle.std.specs.Prelude.{◌≡◌, ◌≤◌, ℕ, IsTrue, List, length, map, drop}
use Rattle.std.specs.List.{list_all}
use Rattle.fm_name.specs.Path.{slash_texts, is_part, part_of}
use Rattle.fm_name.specs.Order.{parts_cmp}

-- so many bytes in front of two texts are the same parts: without them both are parts still, and in
-- the same order
pub record AreAlike (xs ys : List ℕ) (n : ℕ) : Type 0 where
  pub ours : n ≤ length xs
  pub theirs : n ≤ length ys
  pub ours_left : IsTrue (list_all is_part (slash_texts (drop n xs)))
  pub theirs_left : IsTrue (list_all is_part (slash_texts (drop n ys)))
  pub order : parts_cmp (map part_of (slash_texts xs)) (map part_of (slash_texts ys))
      ≡ parts_cmp (map part_of (slash_texts (drop n xs))) (map part_of (slash_texts (drop n ys)))
