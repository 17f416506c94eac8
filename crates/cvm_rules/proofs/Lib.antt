mod Pinned
