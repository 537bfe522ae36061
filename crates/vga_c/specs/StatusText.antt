-- What each status means, in words.
use Rattle.std.specs.Prelude.{ℕ, List, codes, ◌==◌, if◌then◌else◌}

-- the name of a status in C, and a sentence on what the caller did or met
abbrev pub status_text : ℕ → List ℕ
status_text status =
    if status == 0
    then codes "ZAK_OK: The call is done."
    else if status == 1
    then codes "ZAK_NOT_DECODED: No part of the adapter decodes the port or the address."
    else if status == 2
    then codes "ZAK_NOT_IN_PROFILE: docs/PROFILE.md leaves out this register, value or port."
    else if status == 3
    then codes "ZAK_NO_MODE: No mode is set yet."
    else if status == 4
    then codes "ZAK_BAD_FUNCTION: The video BIOS has no such function or subfunction."
    else if status == 5
    then codes "ZAK_BAD_MODE: The video BIOS has no such mode."
    else if status == 6
    then codes "ZAK_WRONG_KIND: The call is for pixels in a text mode, or for text in graphics."
    else if status == 7
    then codes "ZAK_BAD_PAGE: The mode has no such page."
    else if status == 8
    then codes "ZAK_OUTSIDE: The pixel or the cursor position is outside the screen."
    else if status == 9
    then codes "ZAK_COUNT_PAST: Characters pass the page's last cell, or glyphs the last character."
    else if status == 10
    then codes "ZAK_BAD_REGISTER: There is no such palette or DAC register."
    else if status == 11
    then codes "ZAK_BAD_BLOCK: The block does not have the length that the function takes."
    else if status == 12
    then codes "ZAK_TOO_FAR: An advance takes at most 16,777,216 dots."
    else if status == 13
    then codes "ZAK_BAD_HEIGHT: Glyphs have 8, 14 or 16 scan lines."
    else if status == 20
    then codes "ZAK_NO_CARD: The card is not open."
    else if status == 21
    then codes "ZAK_OPEN_ALREADY: The card is open already."
    else if status == 22
    then codes "ZAK_FONT_SIZE: The font file does not have 9,728 bytes."
    else if status == 23
    then codes "ZAK_OUT_OF_MEMORY: An allocation failed."
    else if status == 24
    then codes "ZAK_RAGGED: Two rows of the frame differ in width, so there is no picture."
    else if status == 25
    then codes "ZAK_NO_ROOM: The buffer is too short, and nothing was written there."
    else if status == 26
    then codes "ZAK_BAD_ARGUMENT: An argument is out of the range that the call names."
    else if status == 27
    then codes "ZAK_BAD_CARD: The BIOS data are corrupt: the card's memory was overwritten."
    else if status == 28
    then codes "ZAK_NO_SCREEN: The adapter shows no plain screen."
    else if status == 29
    then codes "ZAK_BROKEN: The library was compiled wrongly, and the card is closed."
    else if status == 30
    then codes "ZAK_STATE_MAGIC: The bytes are no saved state."
    else if status == 31
    then codes "ZAK_STATE_VERSION: The state has another version of the format."
    else if status == 32
    then codes "ZAK_STATE_LENGTH: The state is cut off, or bytes follow it."
    else if status == 33
    then codes "ZAK_STATE_PART: A part of the state is out of its bounds."
    else if status == 34
    then codes "ZAK_STATE_CHECKSUM: The checksum of the state is wrong."
    else if status == 35
    then codes "ZAK_MANY_COLOURS: The picture has more than 256 colours."
    else if status == 36
    then codes "ZAK_NOT_REBUILT: The steps that were tried lead to another state."
    else if status == 102
    then codes "ZAK_BAD_MAGIC: The bytes are no script: they don't begin with VGAS."
    else if status == 103
    then codes "ZAK_BAD_VERSION: The script has another version."
    else if status == 104
    then codes "ZAK_BAD_STEP: No step stands here, or it is out of range."
    else if status == 105
    then codes "ZAK_TRUNCATED: The step that begins here is cut off."
    else if status == 106
    then codes "ZAK_TOO_LONG: The text or the script has more than 16,777,216 bytes."
    else if status == 107
    then codes "ZAK_BAD_LINE: This line of the text is bad."
    else if status == 111
    then codes "ZAK_TOO_MANY: The script means more than 16,777,216 steps from here on."
    else codes "No status has this number."
