-- Each good file adds one to those listed; a bad one ends the listing.
use Rattle.std.proofs.Common.{drop}
use Rattle.std.proofs.Common.{sym, subst, arith}
use Rattle.ev_file.specs.Files.{IsFileFront}
use Rattle.ev_listing.proofs.Listed.{bad_listed, front_some, one_listed, rest_whole, some_found}
use Rattle.ev_listing.proofs.listing.put_files.Goals as goal

pub files-smaller : goal.files-smaller
files-smaller c =
    let file = rw c.in-Some.is at c.in_ok-made.ensures.found in
    let front = subst (λ bytes. IsFileFront c.in-Some.made c.in-Some.size bytes)
    (rest_whole c.files.at c.args.bytes.now) file.1 in
    let some = front_some c.in-Some.made c.in-Some.size (drop c.files.at c.args.bytes.now) front in
    let less = c.files-test.true in
    omega (arith, some, less)

pub files-preserved : goal.files-preserved
files-preserved c =
    let file = rw c.in-Some.is at c.in_ok-made.ensures.found in
    let front = subst (λ bytes. IsFileFront c.in-Some.made c.in-Some.size bytes)
    (rest_whole c.files.at c.args.bytes.now) file.1 in
    one_listed c.args.bytes.now c.files.at c.files.number c.args.out.now.items c.files.out.items
    c.put_listing_of.new.out.items c.in-Some.made c.in-Some.size c.files.invariant file.0 front
    c.in_ok-put_listing_of-in-Some.ensures

pub returns-in-None : goal.returns-in-None
returns-in-None c =
    bad_listed c.args.bytes.now c.files.at c.files.number c.args.out.now.items c.files.out.items
    c.files.invariant c.files-test.true
    (λ made size spelled front.
    some_found c.in_ok-made.field-0 (made, size)
    (c.in_ok-made.ensures.read made size spelled
    (subst (λ bytes. IsFileFront made size bytes)
    (sym (rest_whole c.files.at c.args.bytes.now)) front)) c.in-None.is)
