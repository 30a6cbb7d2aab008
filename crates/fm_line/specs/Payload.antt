-- What a JSON value says as a payload: the list that an object is, or nothing where a value in it
-- is not allowed.
use Rattle.std.specs.Prelude.{ℕ, List, [], ◌∷◌, ◌++◌, Option, Some, None, option_map}
use Rattle.std.specs.Prelude.{option_and_then}
use Rattle.serde_json.specs.Data.{Num, unsigned, negative, float, Data, null, boolean, number}
use Rattle.serde_json.specs.Data.{string, array, object, Items, no_items, item, Members, no_members}
use Rattle.serde_json.specs.Data.{member}
use Rattle.serde_json.specs.Find.{as_number, as_u64, as_str}
use Rattle.fm_nv.specs.Data as nv
use Rattle.fm_nv.specs.Refusal.{pushed}

-- the list of the first and the others, where all of them are there
abbrev pub joined : {A : Type 0} → Option A → Option (List A) → Option (List A)
joined first others = option_and_then (λ x. option_map (λ xs. x ∷ xs) others) first

-- an integer from 0
abbrev pub unsigned_in : Data → Option ℕ
unsigned_in d = option_and_then as_u64 (as_number d)

-- the items, where all of them are integers from 0
abbrev pub unsigneds_of : Items → Option (List ℕ)
unsigneds_of no_items = Some []
unsigneds_of (item d ds) = joined (unsigned_in d) (unsigneds_of ds)

-- the items, where all of them are texts
abbrev pub texts_of : Items → Option (List (List ℕ))
texts_of no_items = Some []
texts_of (item d ds) = joined (as_str d) (texts_of ds)

-- an integer from 0 is unsigned and a negative one signed; a float is refused
abbrev pub number_value : Num → Option nv.Data
number_value (unsigned n) = Some (nv.unsigned n)
number_value (negative z) = Some (nv.signed z)
number_value (float x) = None

-- an array of integers from 0, which an array without items is too, else of texts, else of objects
abbrev pub array_value : Option (List ℕ) → Option (List (List ℕ)) → Option (List nv.Pairs)
    → Option nv.Data
array_value (Some ns) ts ls = Some (nv.unsigneds ns)
array_value None (Some ts) ls = Some (nv.texts ts)
array_value None None (Some ls) = Some (nv.lists (nv.lists_of ls))
array_value None None None = None

-- the list with one more pair, where the value is allowed and the list takes the pair
abbrev pub added : List ℕ → Option nv.Data → nv.Pairs → Option nv.Pairs
added name value found = option_and_then (λ d. pushed name d found) value

abbrev mutual
  -- the value, where it is allowed; null is refused
  pub value_of : Data → Option nv.Data
  value_of null = None
  value_of (boolean b) = Some (nv.boolean b)
  value_of (number n) = number_value n
  value_of (string s) = Some (nv.text s)
  value_of (array ds) = array_value (unsigneds_of ds) (texts_of ds) (lists_from ds)
  value_of (object ms) = option_map nv.nested (pairs_onto nv.no_pairs ms)

  -- the items, where all of them are objects of allowed values
  pub lists_from : Items → Option (List nv.Pairs)
  lists_from no_items = Some []
  lists_from (item d ds) = joined (list_of d) (lists_from ds)

  -- the list that an object of allowed values is
  pub list_of : Data → Option nv.Pairs
  list_of null = None
  list_of (boolean b) = None
  list_of (number n) = None
  list_of (string s) = None
  list_of (array ds) = None
  list_of (object ms) = pairs_onto nv.no_pairs ms

  -- the pairs of an object, in its order, behind those that were found
  pub pairs_onto : nv.Pairs → Members → Option nv.Pairs
  pairs_onto found no_members = Some found
  pairs_onto found (member k d ms) =
      option_and_then (λ more. pairs_onto more ms) (added k (value_of d) found)

-- the items that were found, with those that are still to come
abbrev pub after_found : {A : Type 0} → List A → Option (List A) → Option (List A)
after_found found others = option_map (λ xs. found ++ xs) others
