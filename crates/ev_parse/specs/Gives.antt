-- A function of the parser gives what its reader gives.
use Rattle.std.specs.Prelude.{◌≡◌, ◌++◌, ℕ, List, [], Result, Ok, Err}
use Rattle.ev_lex.specs.declared.token.Token.{Token}
use Rattle.ev_parse.specs.Read.{Got, bind}
use Rattle.ev_parse.specs.Toks.{toks}
use Rattle.ev_parse.specs.declared.stop.ParseStop.{ParseStop}
use Rattle.ev_parse.specs.declared.stop.ParseStop.TheVariants as stops
use denote.Ref.{Bor}

-- want of memory is free, and any other stop is at the tokens at which the reader stops
abbrev pub Fails : {A : Type 0} → List ℕ → ParseStop → Got A → Type 0
Fails text stops.NoMemory read = Unit {0}
Fails text (stops.At rest) read = read ≡ Err (toks text rest.now)

-- a value, seen by view, and the tokens after it
abbrev pub Gives : {X A : Type 0} → List ℕ → (X → A) → Result (X × Bor (List Token)) ParseStop
    → Got A
    → Type 0
Gives text view (Ok x) read = read ≡ Ok (view x.0, toks text x.1.now)
Gives text view (Err e) read = Fails text e read

-- the tokens after a sign or a word
abbrev pub GivesRest : List ℕ → Result (Bor (List Token)) ParseStop → Got (Unit {0}) → Type 0
GivesRest text (Ok rest) read = read ≡ Ok (tt, toks text rest.now)
GivesRest text (Err e) read = Fails text e read

-- values that stand in front of those that are read
abbrev pub onto : {A : Type 0} → List A → Got (List A) → Got (List A)
onto front read = bind read (λ more end. Ok (front ++ more, end))

-- values up to the last token
abbrev pub GivesAll : {X A : Type 0} → List ℕ → (X → A) → Result X ParseStop → Got A → Type 0
GivesAll text view (Ok x) read = read ≡ Ok (view x, [])
GivesAll text view (Err e) read = Fails text e read
