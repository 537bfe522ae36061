-- Reading piece by piece, up to a limit, and what the prefix that was read says of the whole.
use Rattle.std.proofs.Common.{◌≡◌, ◌∙◌, ℕ, ◌+◌, ◌<◌, ◌≤◌, min, Bool, false, List, ◌++◌, length, take, Option, Some, None, IfSome, Err, arith, ap, sym}
use Rattle.std.proofs.Common.{length-append}
use Rattle.std.proofs.lemmas.List.{length-take, take_all}
use Rattle.std.specs.Io.KnownBytes.{Consumes}
use Rattle.std.proofs.KnownBytes.{Consumes-trans}
use Rattle.vga_bits.specs.declared.fault.Fault.{Fault}
use Rattle.vga_bits.specs.declared.fault.Fault.TheVariants.{ReadFault, OutOfMemory}
use Rattle.vga_bits.specs.LimitedReading.{IsPrefixOfReader, ReadsPrefix, TakesAtMost, is_read_fault}

-- the `count` bytes read until now are a prefix of what the reader had
pub record Taken (old new : Option (List ℕ)) (failed : Bool) (before after : ℕ) (bytes : List ℕ) (count most : ℕ) : Type 0 where
  pub consumed : Consumes old new bytes
  pub counted : count ≡ length bytes
  pub few : count ≤ most
  pub sound : failed ≡ false
  pub bound : after ≤ before + count

-- a piece that finds no memory has been taken all the same
pub piece_taken : (old mid new : Option (List ℕ)) (failed : Bool) (before after : ℕ) (bytes piece : List ℕ) (count most : ℕ) →
    Taken old mid failed before after bytes count most
    → Consumes mid new piece → count + length piece ≤ most → TakesAtMost most old new
piece_taken old mid new failed before after bytes piece count most so_far read few =
    (bytes ++ piece, Consumes-trans old mid new bytes piece so_far.consumed read, omega (arith, length-append bytes piece, so_far.counted))

-- the prefix of a list is no longer than the list
pub prefix_short : (n : ℕ) (all bytes : List ℕ) → bytes ≡ take n all → length bytes ≤ length all
prefix_short n all bytes prefix = let e : length bytes ≡ min n (length all) = ap length prefix ∙ length-take n all in omega (arith, e)

-- the prefix with room to spare is the whole list
pub prefix_whole : (n : ℕ) (all bytes : List ℕ) → bytes ≡ take n all → length bytes < n → all ≡ bytes
prefix_whole n all bytes prefix short =
    let e : length bytes ≡ min n (length all) = ap length prefix ∙ length-take n all in
    sym (prefix ∙ take_all n all (omega (arith, e)))

-- bytes that end before the limit are all that the reader had
pub prefix_is_all : (n : ℕ) (input : Option (List ℕ)) (bytes : List ℕ) → IsPrefixOfReader n input bytes → length bytes < n → IfSome input (λ all. all ≡ bytes)
prefix_is_all n None bytes prefix short = tt
prefix_is_all n (Some all) bytes prefix short = prefix_whole n all bytes prefix short

-- and where they are many, the reader had as many or more
pub prefix_is_long : (n most : ℕ) (input : Option (List ℕ)) (bytes : List ℕ) → IsPrefixOfReader n input bytes → most < length bytes →
    IfSome input (λ all. most < length all)
prefix_is_long n most None bytes prefix long = tt
prefix_is_long n most (Some all) bytes prefix long = let e = prefix_short n all bytes prefix in omega arith

-- ---- a prefix that was not read

-- the answer tells whether the reader failed
pub unread_failed : (A : Type 0) (most : ℕ) (old new : Option (List ℕ)) (failed : Bool) (fault : Fault) → ReadsPrefix most old new failed (Err fault)
    → failed ≡ is_read_fault {A = A} (Err fault)
unread_failed A most old new failed ReadFault h = h.0
unread_failed A most old new failed OutOfMemory h = h.0
unread_failed A most old new failed _ h = absurd h

-- and no more was taken than the prefix
pub unread_taken : (most : ℕ) (old new : Option (List ℕ)) (failed : Bool) (fault : Fault) → ReadsPrefix most old new failed (Err fault) →
    TakesAtMost most old new
unread_taken most old new failed ReadFault h = h.1
unread_taken most old new failed OutOfMemory h = h.1
unread_taken most old new failed _ h = absurd h
